use Rattle.std.proofs.Common.{◌≡◌, ℕ, ◌+◌, ◌-◌, ◌<◌, ◌≤◌, get_or}
use Rattle.mesh_num.specs.Portion.{portion}
use Rattle.fused_stage.proofs.neighbour_pass.NeighbourPassRowRule.update_row.Given as goal

abbrev pub invariant-loop-i : goal.invariant-loop-i
invariant-loop-i g l = record {
  done : (k : ℕ) → k < l.i → get_or l.into k 0 ≡ g.S.Start.begins l.self.start (get_or l.initial.into k 0) (get_or l.second k 0)
      + (portion (get_or l.first k 0) (g.A.Portions.rate l.self.from_below) (g.A.Portions.denominator l.self.from_below) + portion (get_or l.fourth k 0) (g.B.Portions.rate l.self.from_above) (g.B.Portions.denominator l.self.from_above))
      - (portion (get_or l.second k 0) (g.C.Portions.rate l.self.to_below) (g.C.Portions.denominator l.self.to_below) + portion (get_or l.third k 0) (g.D.Portions.rate l.self.to_above) (g.D.Portions.denominator l.self.to_above));
  rest : (k : ℕ) → l.i ≤ k → get_or l.into k 0 ≡ get_or l.initial.into k 0;
}
