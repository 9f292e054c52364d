use Rattle.std.proofs.Common.{◌≡◌}
use Rattle.std.specs.Prelude.{slice_index}
use Rattle.mesh_rules.specs.Sums.{table}
use Rattle.due_counts.proofs.letters.both.Given as goal

abbrev pub invariant-loop-i : goal.invariant-loop-i
invariant-loop-i l = l.lists.items ≡ table l.i (λ i. record { ghosts = slice_index l.ghosts i; fluxes = slice_index l.fluxes i })
