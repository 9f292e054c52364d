use Rattle.std.proofs.Common.{◌≡◌}
use Rattle.std.specs.Prelude.{slice_index}
use Rattle.mesh_rules.specs.Sums.{table}
use Rattle.cycle_openings.proofs.opening.counters_of.Given as goal

abbrev pub invariant-loop-leaf : goal.invariant-loop-leaf
invariant-loop-leaf l = l.counters.items ≡ table l.leaf (slice_index l.mesh.counters)
