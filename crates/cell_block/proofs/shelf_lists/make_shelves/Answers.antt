use Rattle.std.proofs.Common.{◌≡◌, ◌∙◌, ap, sym, ◌*◌, ◌++◌, ◌∷◌, [], ℕ, List, arith}
use Rattle.std.proofs.lemmas.List.FromFn.{map-range_with_len_more}
use Rattle.mesh_rules.specs.Sums.{table}
use Rattle.alloc_epochs.specs.Shelf.{Shelved, no_keys}
use Rattle.cell_block.specs.Partitions.{new_shelf}
use Rattle.cell_block.proofs.shelf_lists.make_shelves.Goals as goal

pub loop-list-preserved : goal.loop-list-preserved
loop-list-preserved c =
    let a = c.args in
    let list = c.loop-list.list in
    let each = new_shelf a.size a.leaves a.fields in
    let shelf : c.in_ok-shelf.shelf ≡ each list = c.in_ok-shelf.ensures ∙ ap (λ (n : ℕ). record { first = list * a.size; fields = a.fields; keys = no_keys n a.fields; epoch = 0; spare = 0 }) c.min-blocks.ensures in
    c.in_ok-push.ensures.items
    ∙ ap (λ (xs : List Shelved). xs ++ c.in_ok-shelf.shelf ∷ []) c.loop-list.invariant
    ∙ ap (λ (s : Shelved). table list each ++ s ∷ []) shelf
    ∙ sym (map-range_with_len_more each 0 list list (omega arith))
