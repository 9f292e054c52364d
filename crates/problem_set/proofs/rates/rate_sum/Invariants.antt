use Rattle.std.proofs.Common.{◌≡◌, ◌≤◌, ◌*◌}
use Rattle.std.specs.List.{sum_by, range_with_len}
use Rattle.problem_set.specs.Rates.{both_rates}
use Rattle.problem_set.proofs.rates.rate_sum.Given as goal

abbrev pub invariant-loop-axis : goal.invariant-loop-axis
invariant-loop-axis l = record {
  total : l.sum ≡ sum_by (both_rates l.field l.moves l.level) (range_with_len 0 l.axis);
  bound : l.sum ≤ 4000000000000000 * l.axis;
}
