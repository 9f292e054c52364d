use Rattle.std.proofs.Common.{◌≡◌, ◌+◌, drop}
use Rattle.react_kernel.specs.BlockSteps.{gathered, sum_there}
use Rattle.react_kernel.proofs.cell.gather.Given as goal

abbrev pub invariant-loop-buf : goal.invariant-loop-buf
invariant-loop-buf l = record {
  cell : gathered l.place (drop l.buf-index l.bufs) l.cell ≡ gathered l.place l.bufs l.fn.cell;
  sum : l.sum + sum_there l.place (drop l.buf-index l.bufs) ≡ sum_there l.place l.bufs;
}
