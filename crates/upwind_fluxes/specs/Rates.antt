-- Rates along the axes.
use Rattle.std.specs.Prelude.{ℕ, ◌<◌, ◌≤◌, ◌^◌}
use Rattle.std.specs.List.{slice_index_or}
use Rattle.problem_set.specs.declared.rates.Rates.{Rates}
use Rattle.upwind_fluxes.specs.declared.donor.Donor.{Donor}
use Rattle.upwind_fluxes.specs.declared.donor.Donor.TheVariants.{Below, Above}
use Rattle.upwind_fluxes.specs.declared.rates.LevelRates.{LevelRates}

-- the rates along an axis, none along one that is not there
abbrev pub along : LevelRates → ℕ → Rates
along rates axis = slice_index_or rates.axes axis (record { right = 0; left = 0 })

-- the cell below a face pays by the right rate, the one above it by the left rate
abbrev pub rate_of : Rates → Donor → ℕ
rate_of rates Below = rates.right
rate_of rates Above = rates.left

-- rates that are parts of their denominator
pub record AreProper (rates : LevelRates) : Type 0 where
  pub least : 1 ≤ rates.denominator
  pub most : rates.denominator ≤ 10 ^ 9
  pub right : (axis : ℕ) → axis < 3 → (along rates axis).right ≤ rates.denominator
  pub left : (axis : ℕ) → axis < 3 → (along rates axis).left ≤ rates.denominator
