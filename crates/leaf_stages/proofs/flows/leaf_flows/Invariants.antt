use Rattle.std.proofs.Common.{◌≡◌, ◌≤◌, ◌*◌, ◌^◌, Some}
use Rattle.std.specs.List.{slice_get}
use Rattle.morton_order.specs.declared.space.Loc.{Loc}
use Rattle.block_tree.specs.Blocks.{leaves}
use Rattle.mesh_rules.specs.Sums.{sum_to}
use Rattle.leaf_stages.specs.Flows.{inflow_along}
use Rattle.leaf_stages.proofs.flows.leaf_flows.Given as goal

abbrev pub invariant-loop-axis : goal.invariant-loop-axis
invariant-loop-axis l = record {
  inflow_is : (o : Loc) → slice_get (leaves l.tree) l.leaf ≡ Some o → l.inflow ≡ sum_to l.axis (inflow_along l.tree.shape o l.layout l.right l.left);
  outflow_is : (o : Loc) → slice_get (leaves l.tree) l.leaf ≡ Some o → l.outflow ≡ sum_to l.axis (inflow_along l.tree.shape o l.layout l.left l.right);
  most_in : l.inflow ≤ l.axis * 2 ^ 85;
  most_out : l.outflow ≤ l.axis * 2 ^ 85;
}
