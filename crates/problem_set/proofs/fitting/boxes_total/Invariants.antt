use Rattle.std.proofs.Common.{◌≡◌, ◌≤◌, ◌*◌, ◌^◌, take}
use Rattle.std.specs.List.{sum_by}
use Rattle.problem_set.specs.Rates.{box_total}
use Rattle.problem_set.proofs.fitting.boxes_total.Given as goal

abbrev pub invariant-loop-i : goal.invariant-loop-i
invariant-loop-i l = record {
  total : l.sum ≡ sum_by box_total (take l.i l.boxes);
  bound : l.sum ≤ 2 ^ 96 * l.i;
}
