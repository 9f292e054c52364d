use Rattle.std.proofs.Common.{◌≡◌}
use Rattle.cycle_stores.specs.Gives.{raised_in}
use Rattle.cycle_stores.proofs.giving.raise_stamps.Given as goal

abbrev pub invariant-loop-i : goal.invariant-loop-i
invariant-loop-i l = l.state ≡ record l.initial.state { places = raised_in l.initial.state.places l.first l.i }
