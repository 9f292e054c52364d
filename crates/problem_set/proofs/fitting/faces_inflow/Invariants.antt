use Rattle.std.proofs.Common.{◌≡◌, ◌≤◌, ◌*◌, ◌^◌}
use Rattle.std.specs.List.{sum_by, range_with_len}
use Rattle.problem_set.specs.Rates.{face_inflow}
use Rattle.problem_set.proofs.fitting.faces_inflow.Given as goal

abbrev pub invariant-loop-i : goal.invariant-loop-i
invariant-loop-i l = record {
  total : l.sum ≡ sum_by (face_inflow l.dims l.size l.faces l.moves) (range_with_len 0 l.i);
  bound : l.sum ≤ 2 ^ 96 * l.i;
}
