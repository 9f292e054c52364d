-- Which rates and which closed sides the lists of a block's fluxes are made with.
use Rattle.std.specs.Prelude.{◌≡◌, ℕ, ◌<◌, Bool, true, false, Option, Some, None, List}
use Rattle.morton_order.specs.declared.space.Loc.{Loc}
use Rattle.morton_order.specs.Neighbours.{across}
use Rattle.mesh_settings.specs.declared.words.FaceKind.{FaceKind}
use Rattle.mesh_settings.specs.declared.words.FaceKind.TheVariants.{Periodic, Outflow, Reflecting, Inflow}
use Rattle.mesh_rules.specs.Fields.{kind_at, rates_at}
use Rattle.block_geometry.specs.Blocks.{FieldBlock}
use Rattle.upwind_fluxes.specs.declared.rates.LevelRates.{LevelRates}
use Rattle.upwind_fluxes.specs.Fluxes.{is_closed_side}
use Rattle.upwind_fluxes.specs.Rates.{along}

-- rates are those of the field at the level of the block
pub record AreRatesOf (b : FieldBlock) (rates : LevelRates) : Type 0 where
  pub denominator : rates.denominator ≡ b.settings.denominator
  pub right : (axis : ℕ) → axis < b.layout.dims → (along rates axis).right ≡ (rates_at b.settings b.field axis b.leaf.level).right
  pub left : (axis : ℕ) → axis < b.layout.dims → (along rates axis).left ≡ (rates_at b.settings b.field axis b.leaf.level).left

-- a side is closed where nothing lies across it and the face of the domain reflects
abbrev pub reflects : FaceKind → Option Loc → Bool
reflects Reflecting None = true
reflects Periodic None = false
reflects Outflow None = false
reflects Inflow None = false
reflects _ (Some o) = false

-- just these sides of a block are closed
abbrev pub ClosesReflecting : FieldBlock → List Bool → Type 0
ClosesReflecting b closed = (axis : ℕ) (high : Bool) → axis < b.layout.dims → is_closed_side closed axis high ≡ reflects (kind_at b.settings axis high) (across b.mesh.shape b.leaf axis high)
