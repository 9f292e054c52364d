-- The rates of a field at a level, and the closed sides of a leaf.
use Rattle.std.specs.Prelude.{◌≡◌, ℕ, ◌*◌, ◌<◌, ◌≤◌, Bool, Some, List, slice_get}
use Rattle.morton_order.specs.declared.space.Loc.{Loc}
use Rattle.morton_order.specs.Neighbours.{across}
use Rattle.block_tree.specs.Blocks.{TreeOfBlocks, leaves}
use Rattle.problem_set.specs.declared.problem.Problem.{Problem}
use Rattle.problem_set.specs.Settings.{Settings}
use Rattle.problem_set.specs.SettingsOf.{settings_of}
use Rattle.mesh_rules.specs.Fields.{kind_at, moves_at, rates_at}
use Rattle.upwind_fluxes.specs.declared.rates.LevelRates.{LevelRates}
use Rattle.block_layout.specs.declared.layout.Layout.{Layout}
use Rattle.upwind_fluxes.specs.declared.donor.Donor.{Donor}
use Rattle.upwind_fluxes.specs.Fluxes.{AreFluxes, is_closed_side}
use Rattle.slope_kernel.specs.Slopes.{AreSlopeFluxes}
use Rattle.upwind_fluxes.specs.Multipliers.{AreOf}
use Rattle.upwind_fluxes.specs.Rates.{AreProper, along}
use Rattle.block_laws.specs.Rates.{reflects}
use Rattle.leaf_stages.specs.declared.rates.LevelPortions.{LevelPortions}

-- a rate of a field is a part of the denominator, and at most two thirds of it by the second order
pub record IsRateOf (p : Settings) (f rate : ℕ) : Type 0 where
  pub once : rate ≤ p.denominator
  pub second : (moves_at p f).order ≡ 2 → 3 * rate ≤ 2 * p.denominator

-- rates are those of a field at a level along the axes in use
pub record AreRatesAt (p : Settings) (f level : ℕ) (rates : LevelRates) : Type 0 where
  pub denominator : rates.denominator ≡ p.denominator
  pub right : (axis : ℕ) → axis < p.shape.dims → (along rates axis).right ≡ (rates_at p f axis level).right
  pub left : (axis : ℕ) → axis < p.shape.dims → (along rates axis).left ≡ (rates_at p f axis level).left

-- just the sides of a leaf at reflecting faces of the domain are closed
abbrev pub ClosesAt : Problem → TreeOfBlocks → ℕ → List Bool → Type 0
ClosesAt p t leaf closed = (l : Loc) → slice_get (leaves t) leaf ≡ Some l → (axis : ℕ) (high : Bool) → axis < 3 → axis < t.shape.dims →
    is_closed_side closed axis high ≡ reflects (kind_at (settings_of p) axis high) (across t.shape l axis high)

-- by the second order rates are at most two thirds of the denominator
pub record FitOrder (order : ℕ) (rates : LevelRates) : Type 0 where
  pub right : (axis : ℕ) → axis < 3 → order ≡ 2 → 3 * (along rates axis).right ≤ 2 * rates.denominator
  pub left : (axis : ℕ) → axis < 3 → order ≡ 2 → 3 * (along rates axis).left ≤ 2 * rates.denominator

-- a list has what passes each face of a block in one direction by an order
pub record AreFluxesBy (order : ℕ) (l : Layout) (donor : Donor) (rates : LevelRates) (closed : List Bool) (cells list : List ℕ) : Type 0 where
  pub first : order ≡ 1 → AreFluxes l donor rates closed cells list
  pub second : order ≡ 2 → AreSlopeFluxes l donor rates closed cells list

-- rates at a level with their multipliers
pub record AreLevelPortions (p : Settings) (f : ℕ) (x : LevelPortions) : Type 0 where
  pub rates : AreRatesAt p f x.level x.rates
  pub proper : AreProper x.rates
  pub second : FitOrder (moves_at p f).order x.rates
  pub multipliers : AreOf x.rates x.multipliers
