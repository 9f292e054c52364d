use Rattle.std.proofs.Common.{◌≡◌, ◌+◌, ◌*◌, ◌≤◌, slice_index}
use Rattle.transport_kernel.specs.Passed.{sum_below}
use Rattle.transport_kernel.proofs.sums.box_sum.Given as goal

abbrev pub invariant-loop-z : goal.invariant-loop-z
invariant-loop-z l = record {
  value : l.sum ≡ sum_below l.z (λ z. sum_below (slice_index l.extents 1) (λ y. sum_below (slice_index l.extents 0) (λ x. slice_index l.list (l.start + z * l.plane + y * l.step + x))));
  most : l.sum ≤ l.z * 77937493711422855577600;
}
