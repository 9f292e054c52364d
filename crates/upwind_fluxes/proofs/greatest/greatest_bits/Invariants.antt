use Rattle.std.proofs.Common.{ℕ, ◌<◌, ◌≤◌, ◌^◌, get_or}
use Rattle.upwind_fluxes.proofs.greatest.greatest_bits.Given as goal

abbrev pub invariant-loop-total : goal.invariant-loop-total
invariant-loop-total l = record { small : l.bits < 2 ^ 62; bound : (k : ℕ) → k < l.total-index → get_or l.totals k 0 ≤ l.bits }
