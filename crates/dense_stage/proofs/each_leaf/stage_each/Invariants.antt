use Rattle.std.proofs.Common.{◌≡◌, ◌≤◌, ◌*◌, ◌^◌, ℕ, length, map, take}
use Rattle.problem_set.specs.SettingsOf.{settings_of}
use Rattle.block_tree.specs.Blocks.{leaves}
use Rattle.mesh_rules.specs.Sums.{sum_over}
use Rattle.mesh_rules.specs.Stage.{leaf_inflow, leaf_outflow}
use Rattle.dense_mesh.specs.Ghosts.{AreGhostLists, list_at}
use Rattle.dense_stage.specs.Blocks.{mesh_in, staged_list}
use Rattle.dense_stage.specs.Faces.{AreFaceLists}
use Rattle.leaf_stages.specs.Rates.{AreLevelPortions}
use Rattle.dense_stage.proofs.each_leaf.stage_each.Given as goal

abbrev pub ghost-leaf_pairs : goal.ghost-leaf_pairs
ghost-leaf_pairs g a = g.x

abbrev pub ghost-stage_leaf : goal.ghost-stage_leaf
ghost-stage_leaf g a = g.x

abbrev pub invariant-loop-leaf : goal.invariant-loop-leaf
invariant-loop-leaf g l = record {
  portions_are : AreLevelPortions (settings_of l.problem) l.field l.portions;
  ghosts_fit : AreGhostLists l.layout (length (leaves l.tree)) l.ghosts.items;
  rest : (k : ℕ) → l.leaf ≤ k → list_at l.ghosts.items k ≡ list_at l.initial.ghosts.items k;
  faces_fit : AreFaceLists l.layout (length (leaves l.tree)) l.faces;
  totals_are : l.totals.items ≡ map (staged_list l.tree g.x) (take l.leaf (leaves l.tree));
  inflow_is : l.inflow ≡ sum_over (take l.leaf (leaves l.tree)) (leaf_inflow g.x.settings (mesh_in l.tree g.x) g.x.field);
  outflow_is : l.outflow ≡ sum_over (take l.leaf (leaves l.tree)) (leaf_outflow g.x.settings (mesh_in l.tree g.x) g.x.field);
  most_in : l.inflow ≤ l.leaf * 2 ^ 87;
  most_out : l.outflow ≤ l.leaf * 2 ^ 87;
}
