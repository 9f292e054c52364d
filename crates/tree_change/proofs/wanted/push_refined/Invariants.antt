use Rattle.std.proofs.Common.{◌≡◌, ◌++◌, drop}
use Rattle.std.specs.List.{flat_map, zip}
use Rattle.tree_change.specs.Listed.{refined}
use Rattle.tree_change.proofs.wanted.push_refined.Given as goal

abbrev pub invariant-loop-i : goal.invariant-loop-i
invariant-loop-i l = l.wanted.items ++ flat_map refined (drop l.i (zip l.leaves l.tags)) ≡ l.initial.wanted.items ++ flat_map refined (zip l.leaves l.tags)
