use Rattle.std.proofs.Common.{◌≡◌, ◌+◌, ◌*◌, ◌≤◌, slice_index}
use Rattle.transport_kernel.specs.Passed.{sum_below}
use Rattle.transport_kernel.proofs.sums.rows_sum.Given as goal

abbrev pub invariant-loop-y : goal.invariant-loop-y
invariant-loop-y l = record { value : l.sum ≡ sum_below l.y (λ y. sum_below l.len (λ x. slice_index l.list (l.start + y * l.step + x))); most : l.sum ≤ l.y * 1199038364791120855040 }
