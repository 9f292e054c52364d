use Rattle.std.proofs.Common.{◌≡◌, ◌++◌, drop}
use Rattle.std.specs.List.{flat_map}
use Rattle.block_tree.specs.Tree.{is_listed}
use Rattle.block_tree.specs.Leaves.{leaves_below}
use Rattle.block_tree.proofs.grow.list_leaves.Given as goal

abbrev pub invariant-loop-i : goal.invariant-loop-i
invariant-loop-i l = l.leaves.items ++ flat_map (leaves_below 10 l.shape.dims (is_listed l.nodes)) (drop l.i l.roots) ≡ flat_map (leaves_below 10 l.shape.dims (is_listed l.nodes)) l.roots
