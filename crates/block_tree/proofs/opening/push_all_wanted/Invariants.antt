use Rattle.std.proofs.Common.{◌≡◌, [], drop}
use Rattle.std.specs.List.{flat_map}
use Rattle.block_tree.specs.Leaves.{inner_below}
use Rattle.block_tree.specs.Least.{wanted_by}
use Rattle.block_tree.specs.Nodes.{with_nodes}
use Rattle.block_tree.specs.Worklist.{AddsOnly}
use Rattle.block_tree.proofs.opening.push_all_wanted.Given as goal

abbrev pub invariant-loop-i : goal.invariant-loop-i
invariant-loop-i l = record {
  whole : with_nodes l.nodes (flat_map (inner_below 10 l.shape.dims (wanted_by l.shape l.cells l.boxes)) (drop l.i l.roots)) ≡ with_nodes [] (flat_map (inner_below 10 l.shape.dims (wanted_by l.shape l.cells l.boxes)) l.roots);
  only : AddsOnly (wanted_by l.shape l.cells l.boxes) [] l.nodes;
}
