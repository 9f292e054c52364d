use Rattle.std.proofs.Common.{◌≡◌}
use Rattle.mesh_rules.specs.Sums.{table}
use Rattle.cell_block.specs.Partitions.{new_shelf}
use Rattle.cell_block.proofs.shelf_lists.make_shelves.Given as goal

abbrev pub invariant-loop-list : goal.invariant-loop-list
invariant-loop-list l = l.shelves.items ≡ table l.list (new_shelf l.size l.leaves l.fields)
