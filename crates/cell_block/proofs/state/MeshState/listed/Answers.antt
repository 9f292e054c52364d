use Rattle.std.proofs.Common.{◌≡◌, subst, List}
use Rattle.std.specs.Arc.{arc_value}
use Rattle.std.specs.Prelude.{IfOk}
use Rattle.sparse_pool.specs.declared.place.Place.{Place}
use Rattle.alloc_epochs.specs.Shelf.{takes}
use Rattle.cell_block.proofs.Buffers.{listed_whole}
use Rattle.cell_block.proofs.state.MeshState.listed.Goals as goal

pub returns : goal.returns
returns c =
    let i = c.self.inside in
    subst (λ (ps : List Place). IfOk c.listed.result (λ places. places ≡ ps))
    (listed_whole (arc_value i.tree) i.layout i.store i.counters.items c.args.self.now c.args.list (takes c.args.fields.now.fields c.args.kind) c.self.view_is c.self.invariant) c.listed.ensures
