use Rattle.std.proofs.Common.{ap}
use Rattle.std.specs.Arc.{arc_value}
use Rattle.cell_block.specs.Store.{Placed}
use Rattle.cell_block.proofs.Buffers.{buffers_idle, still_stored}
use Rattle.cell_block.proofs.state.MeshState.set_idle.Goals as goal

pub invariant_of-self : goal.invariant_of-self
invariant_of-self c =
    let i = c.self.inside in
    still_stored (arc_value i.tree) i.layout i.store c.set_idle.new.self i.counters.items _ c.self.invariant (ap (λ (s : Placed). s.leaves) c.set_idle.ensures) (ap (λ (s : Placed). s.places) c.set_idle.ensures)
    (buffers_idle i.layout i.store.places c.args.at c.args.idle c.self.invariant.buffers)
