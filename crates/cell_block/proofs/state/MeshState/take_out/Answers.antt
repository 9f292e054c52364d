use Rattle.std.proofs.Common.{ap, None}
use Rattle.std.specs.Arc.{arc_value}
use Rattle.cell_block.specs.Store.{Placed}
use Rattle.cell_block.proofs.Buffers.{buffers_set, fits, none_stands, still_stored}
use Rattle.cell_block.proofs.state.MeshState.take_out.Goals as goal

pub invariant_of-self : goal.invariant_of-self
invariant_of-self c =
    let i = c.self.inside in
    let at = c.args.at in
    still_stored (arc_value i.tree) i.layout i.store c.lend.new.self i.counters.items _ c.self.invariant (ap (λ (s : Placed). s.leaves) c.lend.ensures.lent) (ap (λ (s : Placed). s.places) c.lend.ensures.lent)
    (buffers_set i.layout i.store.places at None c.self.invariant.buffers (λ x e. none_stands i.layout at x e))

pub returns-clause-place : goal.returns-clause-place
returns-clause-place c = c.self.invariant.buffers.own c.args.at c.lend.result c.lend.ensures.buffer

pub returns-clause-sizes : goal.returns-clause-sizes
returns-clause-sizes c =
    let i = c.self.inside in
    fits (arc_value i.tree) i.layout i.store i.counters.items c.args.self.now c.lend.result c.self.view_is (c.self.invariant.buffers.fit c.args.at c.lend.result c.lend.ensures.buffer)
