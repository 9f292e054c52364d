use Rattle.std.proofs.Common.{◌≡◌, [], map, take}
use Rattle.std.specs.List.{slice_index_or}
use Rattle.dense_reaction.proofs.block.copy_rows.Given as goal

abbrev pub invariant-loop-list : goal.invariant-loop-list
invariant-loop-list l = l.rows.items ≡ map (λ list. slice_index_or list l.leaf []) (take l.list-index l.lists)
