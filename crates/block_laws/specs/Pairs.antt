-- The fluxes of a block are the pairs of the mesh.
use Rattle.std.specs.Prelude.{◌≡◌, ℕ, Bool, List}
use Rattle.mesh_rules.specs.Fields.{moves_at}
use Rattle.block_geometry.specs.Blocks.{FieldBlock, IsFieldBlock}
use Rattle.block_geometry.specs.Contents.{HasInterior, HasOwnPairs, SeesAround}
use Rattle.upwind_fluxes.specs.declared.donor.Donor.TheVariants.{Below, Above}
use Rattle.upwind_fluxes.specs.declared.rates.LevelRates.{LevelRates}
use Rattle.upwind_fluxes.specs.Fluxes.{AreFluxes}
use Rattle.block_laws.specs.Rates.{AreRatesOf, ClosesReflecting}

-- on a block whose ghosts are the look, what passes its faces by the first order is the mesh's pair at each face of a cell but
-- those behind which finer cells are stored
abbrev pub FirstOrderPairs : Type 0
FirstOrderPairs = (b : FieldBlock) (rates : LevelRates) (closed : List Bool) (cells right left : List ℕ) → IsFieldBlock b → (moves_at b.settings b.field).order ≡ 1
    → AreRatesOf b rates → ClosesReflecting b closed → HasInterior b cells → SeesAround b cells
    → AreFluxes b.layout Below rates closed cells right → AreFluxes b.layout Above rates closed cells left → HasOwnPairs b right left
