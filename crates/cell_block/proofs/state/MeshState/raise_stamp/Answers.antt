use Rattle.std.proofs.Common.{◌≡◌, ◌-◌, ◌<◌, ◌^◌, ap, sym, subst, Some, ℕ}
use Rattle.std.specs.Arc.{arc_value}
use Rattle.alloc_epochs.specs.Shelf.{place_on}
use Rattle.field_bufs.specs.declared.buf.FieldBuf.{FieldBuf}
use Rattle.cell_block.specs.State.{Stored, buffer_at}
use Rattle.cell_block.specs.Store.{Placed}
use Rattle.cell_block.proofs.Buffers.{buffers_stamped, still_stored}
use Rattle.cell_block.proofs.state.MeshState.raise_stamp.Goals as goal

pub stamp-requires-clause-stamps : goal.stamp-requires-clause-stamps
stamp-requires-clause-stamps c =
    subst (λ (s : Stored). (f : ℕ) (buf : FieldBuf) → buffer_at s (place_on c.args.block f) ≡ Some buf → buf.stamp < 2 ^ 32 - 1) (sym c.self.view_is) c.requires.stamps

pub invariant_of-self : goal.invariant_of-self
invariant_of-self c =
    let i = c.self.inside in
    still_stored (arc_value i.tree) i.layout i.store c.stamp.new.self i.counters.items _ c.self.invariant (ap (λ (s : Placed). s.leaves) c.stamp.ensures) (ap (λ (s : Placed). s.places) c.stamp.ensures)
    (buffers_stamped i.layout i.store.places c.args.block c.self.invariant.buffers)
