use Rattle.std.proofs.Common.{◌≡◌, ◌+◌, ◌*◌, ◌≤◌, slice_index}
use Rattle.transport_kernel.specs.Passed.{sum_below}
use Rattle.transport_kernel.proofs.sums.row_sum.Given as goal

abbrev pub invariant-loop-x : goal.invariant-loop-x
invariant-loop-x l = record { value : l.sum ≡ sum_below l.x (λ x. slice_index l.list (l.start + x)); most : l.sum ≤ l.x * 18446744073709551616 }
