use Rattle.problem_set.proofs.RateLemmas.{FitTo}
use Rattle.problem_set.proofs.rates.check_rates.Given as goal

abbrev pub invariant-loop-i : goal.invariant-loop-i
invariant-loop-i l = FitTo l.dims l.level l.denominator l.fields l.moves l.i
