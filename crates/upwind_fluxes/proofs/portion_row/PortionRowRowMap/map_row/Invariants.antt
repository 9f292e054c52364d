use Rattle.std.proofs.Common.{◌≡◌, ℕ, ◌<◌, get_or}
use Rattle.mesh_num.specs.Portion.{portion}
use Rattle.upwind_fluxes.proofs.portion_row.PortionRowRowMap.map_row.Given as goal

abbrev pub invariant-loop-i : goal.invariant-loop-i
invariant-loop-i g l = (k : ℕ) → k < l.i → get_or l.into k 0 ≡ portion (get_or l.from k 0) (g.P.Portions.rate l.self.portions) (g.P.Portions.denominator l.self.portions)
