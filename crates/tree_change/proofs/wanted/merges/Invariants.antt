use Rattle.std.proofs.Common.{◌≡◌, ◌-◌}
use Rattle.std.specs.List.{list_all, range_with_len}
use Rattle.morton_order.specs.Space.{child}
use Rattle.block_tree.specs.Next.{is_merge}
use Rattle.tree_change.specs.Tagged.{tag_of}
use Rattle.tree_change.proofs.wanted.merges.Given as goal

abbrev pub invariant-loop-j : goal.invariant-loop-j
invariant-loop-j l =
    list_all (λ i. is_merge (tag_of l.tree l.tags (child l.tree.shape.dims l.at i))) (range_with_len l.j (l.j-end - l.j))
    ≡ list_all (λ i. is_merge (tag_of l.tree l.tags (child l.tree.shape.dims l.at i))) (range_with_len 0 l.j-end)
