use Rattle.std.proofs.Common.{◌≡◌, map, take}
use Rattle.block_tree.specs.Blocks.{leaves}
use Rattle.dense_stage.specs.Blocks.{staged_list}
use Rattle.dense_stage.proofs.GhostLists.{Staging}
use Rattle.dense_stage.proofs.staging.stage_leaves.Given as goal

abbrev pub invariant-loop-leaf : goal.invariant-loop-leaf
invariant-loop-leaf g l = record {
  ghosts_staged : Staging l.tree l.layout g.x l.leaf l.ghosts.items;
  totals_are : l.totals.items ≡ map (staged_list l.tree g.x) (take l.leaf (leaves l.tree));
}
