use Rattle.std.proofs.Common.{◌≡◌, ℕ, ◌<◌, ◌≤◌, get_or}
use Rattle.row_updates.specs.Numbers.{numbers_at}
use Rattle.stage_rules.specs.Rules.{after_pass}
use Rattle.stage_rules.proofs.face_pass.FacePassRowRule.update_row.Given as goal

abbrev pub invariant-loop-i : goal.invariant-loop-i
invariant-loop-i l = record {
  done : (k : ℕ) → k < l.i → get_or l.into k 0 ≡ after_pass (numbers_at l.initial.into l.first l.second l.third l.fourth k);
  rest : (k : ℕ) → l.i ≤ k → get_or l.into k 0 ≡ get_or l.initial.into k 0;
}
