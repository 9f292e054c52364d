use Rattle.std.proofs.Common.{◌≡◌, ◌+◌, drop}
use Rattle.react_kernel.specs.BlockSteps.{held_sum}
use Rattle.react_kernel.proofs.fresh.sum_over.Given as goal

abbrev pub invariant-loop-buf : goal.invariant-loop-buf
invariant-loop-buf l = l.held + held_sum (drop l.buf-index l.bufs) l.cell ≡ held_sum l.bufs l.cell
