use Rattle.std.proofs.Common.{◌≡◌, ◌<◌, ℕ, length, Some}
use Rattle.std.specs.List.{slice_get}
use Rattle.morton_order.specs.declared.space.Loc.{Loc}
use Rattle.block_tree.specs.Blocks.{leaves}
use Rattle.dense_mesh.specs.Ghosts.{list_at}
use Rattle.dense_stage.specs.Blocks.{HasOwn, block_in, field_on}
use Rattle.dense_stage.specs.Faces.{AreFaceLists}
use Rattle.leaf_stages.specs.Rates.{AreLevelPortions}
use Rattle.problem_set.specs.SettingsOf.{settings_of}
use Rattle.dense_stage.proofs.own_fluxes.own_fluxes.Given as goal

abbrev pub ghost-leaf_fluxes : goal.ghost-leaf_fluxes
ghost-leaf_fluxes g a = g.lists

abbrev pub invariant-loop-leaf : goal.invariant-loop-leaf
invariant-loop-leaf g l = record {
  portions_are : AreLevelPortions (settings_of l.problem) l.field l.portions;
  fit : AreFaceLists l.layout (length (leaves l.tree)) l.faces;
  own : (leaf : ℕ) (o : Loc) → leaf < l.leaf → slice_get (leaves l.tree) leaf ≡ Some o → HasOwn (block_in l.tree l.layout (field_on l.problem g.lists l.field) o) (list_at l.faces.right.items leaf) (list_at l.faces.left.items leaf);
}
