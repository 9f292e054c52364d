use Rattle.std.proofs.Common.{◌≡◌, drop}
use Rattle.field_bufs.specs.Buffers.{cells_of}
use Rattle.tail_tasks.proofs.wishes.criterion_wish.Given as goal

abbrev pub invariant-loop-buf : goal.invariant-loop-buf
invariant-loop-buf l = cells_of l.bufs l.criterion.field ≡ cells_of (drop l.buf-index l.bufs) l.criterion.field
