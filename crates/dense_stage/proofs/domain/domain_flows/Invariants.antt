use Rattle.std.proofs.Common.{◌≡◌, ◌≤◌, ◌*◌, ◌^◌, take}
use Rattle.block_tree.specs.Blocks.{leaves}
use Rattle.mesh_rules.specs.Sums.{sum_over}
use Rattle.mesh_rules.specs.Stage.{leaf_inflow, leaf_outflow}
use Rattle.dense_stage.specs.Blocks.{mesh_in}
use Rattle.dense_stage.proofs.domain.domain_flows.Given as goal

abbrev pub invariant-loop-leaf : goal.invariant-loop-leaf
invariant-loop-leaf g l = record {
  inflow_is : l.inflow ≡ sum_over (take l.leaf (leaves l.tree)) (leaf_inflow g.x.settings (mesh_in l.tree g.x) g.x.field);
  outflow_is : l.outflow ≡ sum_over (take l.leaf (leaves l.tree)) (leaf_outflow g.x.settings (mesh_in l.tree g.x) g.x.field);
  most_in : l.inflow ≤ l.leaf * 2 ^ 87;
  most_out : l.outflow ≤ l.leaf * 2 ^ 87;
}
