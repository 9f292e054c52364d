use Rattle.std.proofs.Common.{◌≡◌, ℕ, ◌<◌, get_or}
use Rattle.mesh_num.specs.Portion.{portion}
use Rattle.stage_rules.specs.Rules.{limited}
use Rattle.stage_rules.proofs.slope_pay.SlopePayRowRule.update_row.Given as goal

abbrev pub invariant-loop-i : goal.invariant-loop-i
invariant-loop-i g l = (k : ℕ) → k < l.i → get_or l.into k 0 ≡ portion (limited (get_or l.first k 0) (get_or l.second k 0) (get_or l.third k 0)) (g.P.Portions.rate l.self.portions) (g.P.Portions.denominator l.self.portions)
