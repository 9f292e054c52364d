use Rattle.std.proofs.Common.{◌≡◌, ◌+◌, ◌-◌, ◌*◌, ◌/◌, ◌%◌, ◌++◌}
use Rattle.std.specs.List.{flat_map, range_with_len}
use Rattle.block_tree.specs.Leaves.{roots_in}
use Rattle.block_tree.proofs.grow.+push_roots.Given as goal

abbrev pub decreases-push_roots : goal.decreases-push_roots
decreases-push_roots l = l.k

abbrev pub invariant-loop-j : goal.invariant-loop-j
invariant-loop-j l =
    l.roots.items ++ flat_map (λ j. roots_in (l.k - 1) l.shape (2 * l.x + j % 2) (2 * l.y + j / 2 % 2) (2 * l.z + j / 4)) (range_with_len l.j (8 - l.j))
    ≡ l.initial.roots.items ++ flat_map (λ j. roots_in (l.k - 1) l.shape (2 * l.x + j % 2) (2 * l.y + j / 2 % 2) (2 * l.z + j / 4)) (range_with_len 0 8)
