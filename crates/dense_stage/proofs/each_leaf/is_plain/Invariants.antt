use Rattle.std.proofs.Common.{◌≡◌, ◌<◌, ℕ, Some}
use Rattle.std.specs.List.{slice_get}
use Rattle.morton_order.specs.declared.space.Loc.{Loc}
use Rattle.block_tree.specs.Blocks.{leaves}
use Rattle.dense_stage.specs.Blocks.{NoneFiner}
use Rattle.dense_stage.proofs.each_leaf.is_plain.Given as goal

abbrev pub invariant-loop-leaf : goal.invariant-loop-leaf
invariant-loop-leaf l = record {
  plain : (leaf : ℕ) (o : Loc) → leaf < l.leaf → slice_get (leaves l.tree) leaf ≡ Some o → NoneFiner l.dims l.tree o;
}
