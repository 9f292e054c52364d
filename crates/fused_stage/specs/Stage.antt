-- A stage on the interior cells of a block from its cells and ghosts.
use Rattle.std.specs.Prelude.{◌≡◌, ℕ, ◌+◌, ◌<◌, ◌≤◌, ◌^◌, Bool, List, length, All}
use Rattle.block_layout.specs.declared.layout.Layout.{Layout}
use Rattle.block_layout.specs.Indices.{IsWithin}
use Rattle.block_layout.specs.Layouts.{len}
use Rattle.upwind_fluxes.specs.declared.donor.Donor.{Donor}
use Rattle.upwind_fluxes.specs.declared.donor.Donor.TheVariants.{Below, Above}
use Rattle.upwind_fluxes.specs.declared.rates.LevelRates.{LevelRates}
use Rattle.upwind_fluxes.specs.Fluxes.{AreFluxes, flux_at}
use Rattle.upwind_fluxes.specs.Rates.{AreProper, along, rate_of}
use Rattle.transport_kernel.specs.Update.{CanPass, HasPassed, listed, sum_axes, total_at}

-- what passes a face of an axis in one direction, by the rates
abbrev pub flux_by : Layout → LevelRates → List Bool → List ℕ → Donor → ℕ → List ℕ → ℕ
flux_by l rates closed cells donor axis i =
    flux_at l donor (rate_of (along rates axis) donor) rates.denominator closed cells axis i

-- no interior cell pays more than it has, and none comes to 2^63
abbrev pub CanStage : Layout → LevelRates → List Bool → List ℕ → Type 0
CanStage l rates closed cells =
    CanPass l (flux_by l rates closed cells Below) (flux_by l rates closed cells Above) cells

-- each interior cell has what it had, and what came in through its faces, less what went out: where half of each cell
-- moves to the right, a cell of 6 with 4 below it becomes 6 + 2 - 3 = 5
abbrev pub IsStaged : Layout → LevelRates → List Bool → List ℕ → List ℕ → Type 0
IsStaged l rates closed cells new =
    HasPassed l (flux_by l rates closed cells Below) (flux_by l rates closed cells Above) cells new

-- that is the update by lists of what passes the faces
pub record IsUpdateAfterFluxes : Type 0 where
  pub may_be : (l : Layout) (rates : LevelRates) (closed : List Bool) (cells right left : List ℕ)
      → AreFluxes l Below rates closed cells right → AreFluxes l Above rates closed cells left
      → CanStage l rates closed cells → CanPass l (listed l right) (listed l left) cells
  pub same : (l : Layout) (rates : LevelRates) (closed : List Bool) (cells right left updated staged : List ℕ)
      → AreFluxes l Below rates closed cells right → AreFluxes l Above rates closed cells left
      → HasPassed l (listed l right) (listed l left) cells updated → IsStaged l rates closed cells staged
      → (i : List ℕ) → IsWithin l.cells i → total_at l staged i ≡ total_at l updated i

-- the rates of all axes in use are together at most the denominator
abbrev pub FitTogether : ℕ → LevelRates → Type 0
FitTogether dims rates = sum_axes dims (λ axis. (along rates axis).right + (along rates axis).left) ≤ rates.denominator

-- then a stage may be made of any totals below 2^62
abbrev pub FittingRatesSuffice : Type 0
FittingRatesSuffice = (l : Layout) (rates : LevelRates) (closed : List Bool) (cells : List ℕ)
    → length cells ≡ len l → AreProper rates → FitTogether l.dims rates → All (λ t. t < 2 ^ 62) cells
    → CanStage l rates closed cells
