use Rattle.std.proofs.Common.{◌≡◌, ◌≤◌, ◌+◌, drop}
use Rattle.react_kernel.specs.BlockSteps.{lower}
use Rattle.react_kernel.proofs.fresh.count_below.Given as goal

abbrev pub invariant-loop-buf : goal.invariant-loop-buf
invariant-loop-buf l = record { value : l.count + lower (drop l.buf-index l.bufs) l.field ≡ lower l.bufs l.field; most : l.count ≤ l.buf-index }
