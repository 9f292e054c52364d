use Rattle.std.proofs.Common.{◌≡◌, ◌-◌, ◌<◌, ◌^◌, ℕ, Some}
use Rattle.alloc_epochs.specs.Shelf.{place_on}
use Rattle.field_bufs.specs.declared.buf.FieldBuf.{FieldBuf}
use Rattle.cell_block.specs.State.{buffer_at}
use Rattle.store_cases.proofs.steps.can_stamp.Given as goal

abbrev pub invariant-loop-field : goal.invariant-loop-field
invariant-loop-field l = (f : ℕ) (buf : FieldBuf) → f < l.field → buffer_at l.state (place_on l.block f) ≡ Some buf → buf.stamp < 2 ^ 32 - 1
