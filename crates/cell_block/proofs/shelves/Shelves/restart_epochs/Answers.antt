use Rattle.std.proofs.Common.{◌∙◌, ap, subst, sym, List}
use Rattle.alloc_epochs.specs.Shelf.{Shelved}
use Rattle.cell_block.specs.Partitions.{AreShelves, on_shelves}
use Rattle.cell_block.proofs.PartitionLists.{alike_are, restarted_alike, restarted_value}
use Rattle.cell_block.proofs.shelves.Shelves.restart_epochs.Goals as goal

pub invariant_of-self : goal.invariant_of-self
invariant_of-self c =
    let i = c.self.inside in
    subst (λ (shelves : List Shelved). AreShelves i.size i.leaves i.fields shelves) (sym c.restart_all.ensures)
    (alike_are i.size i.leaves i.fields i.shelves.items _ c.self.invariant (restarted_alike i.shelves.items))

pub returns : goal.returns
returns c =
    let i = c.self.inside in
    ap (λ (shelves : List Shelved). on_shelves i.size i.leaves i.fields shelves) c.restart_all.ensures
    ∙ restarted_value i.size i.leaves i.fields i.shelves.items c.args.self.now c.self.view_is c.self.invariant
