use Rattle.std.proofs.Common.{◌≡◌, ◌++◌, drop, map}
use Rattle.block_tree.specs.Table.{sides_of}
use Rattle.block_tree.proofs.table.table_of.Given as goal

abbrev pub invariant-loop-i : goal.invariant-loop-i
invariant-loop-i l = l.table.items ++ map (sides_of l.nodes l.leaves l.shape) (drop l.i l.leaves) ≡ map (sides_of l.nodes l.leaves l.shape) l.leaves
