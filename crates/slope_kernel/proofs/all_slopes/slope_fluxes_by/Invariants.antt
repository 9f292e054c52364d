use Rattle.std.proofs.Common.{◌≡◌, ℕ, ◌<◌, List, slice_index}
use Rattle.block_layout.specs.Indices.{IsWithin}
use Rattle.block_layout.specs.Faces.{face_extents, face_number}
use Rattle.upwind_fluxes.specs.declared.donor.Donor.TheVariants.{Below, Above}
use Rattle.slope_kernel.specs.Slopes.{slope_flux}
use Rattle.upwind_fluxes.specs.Rates.{along, rate_of}
use Rattle.slope_kernel.proofs.all_slopes.slope_fluxes_by.Given as goal

abbrev pub invariant-loop-axis : goal.invariant-loop-axis
invariant-loop-axis l = record {
  right : (a : ℕ) (i : List ℕ) → a < l.axis → a < l.layout.dims → IsWithin (face_extents l.layout a) i → slice_index l.right (face_number l.layout a i) ≡ slope_flux l.layout Below (rate_of (along l.rates a) Below) l.rates.denominator l.closed l.cells a i;
  left : (a : ℕ) (i : List ℕ) → a < l.axis → a < l.layout.dims → IsWithin (face_extents l.layout a) i → slice_index l.left (face_number l.layout a i) ≡ slope_flux l.layout Above (rate_of (along l.rates a) Above) l.rates.denominator l.closed l.cells a i;
}
