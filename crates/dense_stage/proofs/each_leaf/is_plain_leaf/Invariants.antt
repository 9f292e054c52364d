use Rattle.std.proofs.Common.{◌≡◌, ◌<◌, ℕ, Bool, Some}
use Rattle.std.specs.List.{slice_get}
use Rattle.morton_order.specs.declared.space.Loc.{Loc}
use Rattle.block_tree.specs.Blocks.{leaves}
use Rattle.dense_stage.specs.Blocks.{NoneFinerAt}
use Rattle.dense_stage.proofs.each_leaf.is_plain_leaf.Given as goal

abbrev pub invariant-loop-axis : goal.invariant-loop-axis
invariant-loop-axis l = record {
  plain : (axis : ℕ) (high : Bool) (o : Loc) → axis < l.axis → slice_get (leaves l.tree) l.leaf ≡ Some o → NoneFinerAt l.tree o axis high;
}
