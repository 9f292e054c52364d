-- Rates by which cells can always pay.
use Rattle.std.specs.Prelude.{ℕ, ◌+◌, ◌*◌, ◌≤◌}
use Rattle.upwind_fluxes.specs.declared.rates.LevelRates.{LevelRates}
use Rattle.upwind_fluxes.specs.Rates.{along}
use Rattle.transport_kernel.specs.Update.{sum_axes}

-- the rates of all axes in use are together at most two thirds of the denominator: by the second order a cell counts for
-- at most half as much again as it has
abbrev pub FitSlopes : ℕ → LevelRates → Type 0
FitSlopes dims rates =
    3 * sum_axes dims (λ axis. (along rates axis).right + (along rates axis).left) ≤ 2 * rates.denominator
