-- What passes the faces of a block by the second order.
use Rattle.std.specs.Prelude.{◌≡◌, ℕ, ◌<◌, Bool, cond, List, [], ◌∷◌, slice_index}
use Rattle.mesh_num.specs.Portion.{portion}
use Rattle.block_layout.specs.declared.layout.Layout.{Layout}
use Rattle.block_layout.specs.Indices.{IsWithin, added, with_along}
use Rattle.block_layout.specs.Layouts.{ghost_layers, place}
use Rattle.block_layout.specs.Faces.{face_extents, face_number}
use Rattle.stage_rules.specs.Rules.{limited}
use Rattle.upwind_portions.specs.declared.fraction.Fraction.{Fraction}
use Rattle.upwind_fluxes.specs.declared.donor.Donor.{Donor}
use Rattle.upwind_fluxes.specs.declared.donor.Donor.TheVariants.{Below, Above}
use Rattle.upwind_fluxes.specs.declared.rates.LevelRates.{LevelRates}
use Rattle.upwind_fluxes.specs.Fluxes.{AreAlong, is_closed}
use Rattle.upwind_fluxes.specs.Rates.{along, rate_of}

-- the totals along an axis at a face, by rising coordinate: of the second and the first cell below it, and of the first and
-- the second cell above it, which are numbered 0 to 3
abbrev pub total_beside : Layout → List ℕ → ℕ → ℕ → List ℕ → ℕ
total_beside l cells axis number i =
    slice_index cells (place l (added (with_along axis number (ghost_layers l 0 ∷ ghost_layers l 1 ∷ ghost_layers l 2 ∷ [])) i))

-- what the paying cell's total counts for at the face: the cell below sees the face ahead of it upwards, the cell above downwards
abbrev pub donor_at : Layout → Donor → List ℕ → ℕ → List ℕ → ℕ
donor_at l Below cells axis i = limited (total_beside l cells axis 0 i) (total_beside l cells axis 1 i) (total_beside l cells axis 2 i)
donor_at l Above cells axis i = limited (total_beside l cells axis 3 i) (total_beside l cells axis 2 i) (total_beside l cells axis 1 i)

-- what it pays: the upwind portion of that, floored, and nothing through a closed face
abbrev pub slope_flux : Layout → Donor → ℕ → ℕ → List Bool → List ℕ → ℕ → List ℕ → ℕ
slope_flux l donor rate denominator closed cells axis i = cond (is_closed l closed axis i) 0 (portion (donor_at l donor cells axis i) rate denominator)

-- a list has what passes each face of a block in one direction
abbrev pub AreSlopeFluxes : Layout → Donor → LevelRates → List Bool → List ℕ → List ℕ → Type 0
AreSlopeFluxes l donor rates closed cells list = (axis : ℕ) (i : List ℕ) → axis < l.dims → IsWithin (face_extents l axis) i →
    slice_index list (face_number l axis i) ≡ slope_flux l donor (rate_of (along rates axis) donor) rates.denominator closed cells axis i

-- the cells at one side of the faces of an axis pay by that rate
abbrev pub SlopesPaid : Layout → ℕ → Donor → ℕ → ℕ → List ℕ → List ℕ → Type 0
SlopesPaid l axis donor rate denominator cells list = AreAlong l axis (λ i. portion (donor_at l donor cells axis i) rate denominator) list

-- they pay by the rate of a fraction, and nothing through closed faces
abbrev pub SlopesAlong : Layout → ℕ → Donor → Fraction → List Bool → List ℕ → List ℕ → Type 0
SlopesAlong l axis donor f closed cells list = AreAlong l axis (slope_flux l donor f.rate f.denominator closed cells axis) list
