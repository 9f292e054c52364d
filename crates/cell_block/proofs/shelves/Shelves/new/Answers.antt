use Rattle.std.proofs.Common.{◌∙◌, ap, subst, sym, List}
use Rattle.alloc_epochs.specs.Shelf.{Shelved}
use Rattle.cell_block.specs.Partitions.{AreShelves, on_shelves}
use Rattle.cell_block.proofs.PartitionLists.{new_are, new_value}
use Rattle.cell_block.proofs.shelves.Shelves.new.Goals as goal

pub invariant_of-result : goal.invariant_of-result
invariant_of-result c =
    let a = c.args in
    subst (λ (shelves : List Shelved). AreShelves a.size a.leaves a.fields shelves) (sym c.in_ok-shelves.ensures) (new_are a.size a.leaves a.fields c.requires.some c.requires.most c.requires.few_leaves c.requires.few_fields)

pub returns : goal.returns
returns c =
    let a = c.args in
    ap (λ (shelves : List Shelved). on_shelves a.size a.leaves a.fields shelves) c.in_ok-shelves.ensures ∙ new_value a.size a.leaves a.fields c.requires.some c.requires.most c.requires.few_leaves c.requires.few_fields
