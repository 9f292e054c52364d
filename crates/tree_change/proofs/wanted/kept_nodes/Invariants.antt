use Rattle.std.proofs.Common.{◌≡◌, ◌++◌, drop}
use Rattle.std.specs.List.{flat_map}
use Rattle.tree_change.specs.Listed.{kept}
use Rattle.tree_change.proofs.wanted.kept_nodes.Given as goal

abbrev pub invariant-loop-i : goal.invariant-loop-i
invariant-loop-i l = l.wanted.items ++ flat_map (kept l.tree l.tags) (drop l.i l.nodes) ≡ flat_map (kept l.tree l.tags) l.nodes
