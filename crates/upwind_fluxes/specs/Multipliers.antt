-- Which multipliers stand for which rates.
use Rattle.std.specs.Prelude.{◌≡◌, ℕ, zero, suc, ◌<◌}
use Rattle.upwind_portions.specs.declared.fraction.Fraction.{Fraction}
use Rattle.upwind_fluxes.specs.declared.donor.Donor.{Donor}
use Rattle.upwind_fluxes.specs.declared.donor.Donor.TheVariants.{Below, Above}
use Rattle.upwind_fluxes.specs.declared.rates.LevelRates.{LevelRates}
use Rattle.upwind_fluxes.specs.declared.multipliers.Multipliers.{Multipliers}
use Rattle.upwind_fluxes.specs.Rates.{along, rate_of}

-- the multipliers along an axis, of the cells at one side of its faces
abbrev pub fraction_at : Multipliers → ℕ → Donor → Fraction
fraction_at m zero Below = m.right1
fraction_at m zero Above = m.left1
fraction_at m (suc zero) Below = m.right2
fraction_at m (suc zero) Above = m.left2
fraction_at m (suc (suc _)) Below = m.right3
fraction_at m (suc (suc _)) Above = m.left3

-- multipliers are those of the rates
pub record AreOf (rates : LevelRates) (m : Multipliers) : Type 0 where
  pub rate : (axis : ℕ) (donor : Donor) → axis < 3 → (fraction_at m axis donor).rate ≡ rate_of (along rates axis) donor
  pub denominator : (axis : ℕ) (donor : Donor) → axis < 3 → (fraction_at m axis donor).denominator ≡ rates.denominator
