use Rattle.std.proofs.Common.{◌≡◌, subst, List}
use Rattle.std.specs.Prelude.{IfOk}
use Rattle.sparse_pool.specs.declared.place.Place.{Place}
use Rattle.alloc_epochs.specs.Shelf.{takes}
use Rattle.cell_block.proofs.KeptStates.{listed_seen}
use Rattle.cell_block.proofs.store.Store.listed.Goals as goal

pub returns : goal.returns
returns c =
    let i = c.self.inside in
    subst (λ (ps : List Place). IfOk c.listed.result (λ places. places ≡ ps))
    (listed_seen i.shelves i.buffers c.args.list (takes c.args.fields.now.fields c.args.kind) c.args.self.now c.self.view_is c.self.invariant.tied) c.listed.ensures
