use Rattle.std.proofs.Common.{◌≡◌, ◌-◌}
use Rattle.std.specs.List.{flat_map, range_with_len}
use Rattle.morton_order.specs.Space.{child}
use Rattle.block_tree.specs.Leaves.{inner_below}
use Rattle.block_tree.specs.Least.{wanted_by}
use Rattle.block_tree.specs.Nodes.{with_nodes}
use Rattle.block_tree.specs.Worklist.{AddsOnly}
use Rattle.block_tree.proofs.opening.+push_wanted.Given as goal

abbrev pub decreases-push_wanted : goal.decreases-push_wanted
decreases-push_wanted l = l.k

abbrev pub invariant-loop-j : goal.invariant-loop-j
invariant-loop-j l = record {
  whole : with_nodes l.nodes (flat_map (λ j. inner_below (l.k - 1) l.shape.dims (wanted_by l.shape l.cells l.boxes) (child l.shape.dims l.at j)) (range_with_len l.j (l.j-end - l.j)))
      ≡ with_nodes l.initial.nodes (flat_map (λ j. inner_below (l.k - 1) l.shape.dims (wanted_by l.shape l.cells l.boxes) (child l.shape.dims l.at j)) (range_with_len 0 l.j-end));
  only : AddsOnly (wanted_by l.shape l.cells l.boxes) l.initial.nodes l.nodes;
}
