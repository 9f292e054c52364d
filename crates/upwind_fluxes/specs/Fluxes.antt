-- What passes the faces of a block.
use Rattle.std.specs.Prelude.{◌≡◌, ◌≢◌, ◌==◌, ℕ, ◌+◌, ◌*◌, ◌<◌, Bool, true, false, cond, ◌&&◌, ◌||◌, List, slice_index}
use Rattle.std.specs.List.{slice_index_or}
use Rattle.mesh_num.specs.Portion.{portion}
use Rattle.block_layout.specs.declared.layout.Layout.{Layout}
use Rattle.block_layout.specs.Indices.{IsWithin}
use Rattle.block_layout.specs.Layouts.{cells_along, place}
use Rattle.block_layout.specs.Faces.{face_extents, face_number}
use Rattle.upwind_portions.specs.declared.fraction.Fraction.{Fraction}
use Rattle.upwind_fluxes.specs.declared.donor.Donor.{Donor}
use Rattle.upwind_fluxes.specs.declared.rates.LevelRates.{LevelRates}
use Rattle.upwind_fluxes.specs.Beside.{beside_face}
use Rattle.upwind_fluxes.specs.Rates.{along, rate_of}

-- where the faces at a side of the block stand along its axis
abbrev pub side_at : Layout → ℕ → Bool → ℕ
side_at l axis high = cond high (cells_along l axis) 0

-- whether the face of an index stands at a side of the block
abbrev pub is_at_side : Layout → ℕ → Bool → List ℕ → Bool
is_at_side l axis high i = slice_index i axis == side_at l axis high

-- whether a side is closed, in the order x1 low, x1 high, x2 low, x2 high, x3 low, x3 high
abbrev pub is_closed_side : List Bool → ℕ → Bool → Bool
is_closed_side closed axis false = slice_index_or closed (2 * axis) false
is_closed_side closed axis true = slice_index_or closed (2 * axis + 1) false

-- whether a face stands at a closed side
abbrev pub is_closed : Layout → List Bool → ℕ → List ℕ → Bool
is_closed l closed axis i = (is_closed_side closed axis false && is_at_side l axis false i) || (is_closed_side closed axis true && is_at_side l axis true i)

-- the total of the cell that pays at a face
abbrev pub donor_total : Layout → Donor → List ℕ → ℕ → List ℕ → ℕ
donor_total l donor cells axis i = slice_index cells (place l (beside_face l axis donor i))

-- what it pays: the upwind portion, floored, and nothing through a closed face
abbrev pub flux_at : Layout → Donor → ℕ → ℕ → List Bool → List ℕ → ℕ → List ℕ → ℕ
flux_at l donor rate denominator closed cells axis i = cond (is_closed l closed axis i) 0 (portion (donor_total l donor cells axis i) rate denominator)

-- a list has a number for each face of an axis
abbrev pub AreAlong : Layout → ℕ → (List ℕ → ℕ) → List ℕ → Type 0
AreAlong l axis each list = (i : List ℕ) → IsWithin (face_extents l axis) i → slice_index list (face_number l axis i) ≡ each i

-- the cells at one side of the faces of an axis pay by that rate
abbrev pub PaysAlong : Layout → ℕ → Donor → ℕ → ℕ → List ℕ → List ℕ → Type 0
PaysAlong l axis donor rate denominator cells list = AreAlong l axis (λ i. portion (donor_total l donor cells axis i) rate denominator) list

-- they pay by the rate of a fraction, and nothing through closed faces
abbrev pub FluxAlong : Layout → ℕ → Donor → Fraction → List Bool → List ℕ → List ℕ → Type 0
FluxAlong l axis donor f closed cells list = AreAlong l axis (flux_at l donor f.rate f.denominator closed cells axis) list

-- the faces of all other axes have what they had
abbrev pub OthersStay : Layout → ℕ → List ℕ → List ℕ → Type 0
OthersStay l axis old new = (other : ℕ) (i : List ℕ) → other < l.dims → other ≢ axis → IsWithin (face_extents l other) i →
    slice_index new (face_number l other i) ≡ slice_index old (face_number l other i)

-- a list has what passes each face of a block in one direction
abbrev pub AreFluxes : Layout → Donor → LevelRates → List Bool → List ℕ → List ℕ → Type 0
AreFluxes l donor rates closed cells list = (axis : ℕ) (i : List ℕ) → axis < l.dims → IsWithin (face_extents l axis) i →
    slice_index list (face_number l axis i) ≡ flux_at l donor (rate_of (along rates axis) donor) rates.denominator closed cells axis i
