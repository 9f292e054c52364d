use Rattle.std.proofs.Common.{ap, refl, Some}
use Rattle.std.specs.Arc.{arc_value}
use Rattle.cell_block.specs.Store.{Placed}
use Rattle.cell_block.proofs.Buffers.{buffers_put, one_stands, own_fits, still_stored}
use Rattle.cell_block.proofs.state.MeshState.add.Goals as goal

pub invariant_of-self : goal.invariant_of-self
invariant_of-self c =
    let i = c.self.inside in
    let t = arc_value i.tree in
    let buf = c.args.buf in
    still_stored t i.layout i.store c.add.new.self i.counters.items _ c.self.invariant (ap (λ (s : Placed). s.leaves) c.add.ensures.added) (ap (λ (s : Placed). s.places) c.add.ensures.added)
    (buffers_put i.layout i.store.places _ (Some (record { idle = 0; buf = Some buf })) c.self.invariant.buffers
    (λ x e. one_stands i.layout _ buf x (record { own = refl; fit = own_fits t i.layout i.store i.counters.items c.args.self.now buf c.self.view_is c.requires.sizes }) e))
