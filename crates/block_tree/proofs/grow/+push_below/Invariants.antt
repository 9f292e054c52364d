use Rattle.std.proofs.Common.{◌≡◌, ◌-◌, ◌++◌}
use Rattle.std.specs.List.{flat_map, range_with_len}
use Rattle.morton_order.specs.Space.{child}
use Rattle.block_tree.specs.Tree.{is_listed}
use Rattle.block_tree.specs.Leaves.{inner_below, leaves_below}
use Rattle.block_tree.proofs.grow.+push_below.Given as goal

abbrev pub decreases-push_below : goal.decreases-push_below
decreases-push_below l = l.k

abbrev pub invariant-loop-j : goal.invariant-loop-j
invariant-loop-j l = record {
  inner : l.inner.items ++ flat_map (λ j. inner_below (l.k - 1) l.dims (is_listed l.nodes) (child l.dims l.at j)) (range_with_len l.j (l.j-end - l.j))
      ≡ l.initial.inner.items ++ flat_map (λ j. inner_below (l.k - 1) l.dims (is_listed l.nodes) (child l.dims l.at j)) (range_with_len 0 l.j-end);
  leaves : l.leaves.items ++ flat_map (λ j. leaves_below (l.k - 1) l.dims (is_listed l.nodes) (child l.dims l.at j)) (range_with_len l.j (l.j-end - l.j))
      ≡ l.initial.leaves.items ++ flat_map (λ j. leaves_below (l.k - 1) l.dims (is_listed l.nodes) (child l.dims l.at j)) (range_with_len 0 l.j-end);
}
