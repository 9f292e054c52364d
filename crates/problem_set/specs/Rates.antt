-- The rates of a field, and what they add up to.
use Rattle.std.specs.Prelude.{◌+◌, ◌*◌, ◌-◌, ◌/◌, ◌&&◌, nat_lt, if◌then◌else◌, ℕ, zero, suc, ℤ, pos, negsuc, length, List, sum_by, slice_index}
use Rattle.std.specs.List.{slice_index_or, range_with_len, zip}
use Rattle.mesh_num.specs.Rate.{rate}
use Rattle.package_fields.specs.declared.field.Field.{Field}
use Rattle.package_fields.specs.declared.flag.Flag.TheVariants.{FillGhost, WithFluxes}
use Rattle.package_fields.specs.Flags.{has}
use Rattle.deck_entries.specs.declared.entries.Moves.{Moves}
use Rattle.deck_entries.specs.declared.entries.StartBox.{StartBox}
use Rattle.mesh_settings.specs.declared.words.FaceKind.{FaceKind}
use Rattle.mesh_settings.specs.declared.words.FaceKind.TheVariants.{Outflow}
use Rattle.mesh_settings.specs.Mesh.{is_inflow}

-- how fast a velocity goes up along its axis
abbrev pub upwards : ℤ → ℕ
upwards (pos n) = n
upwards (negsuc n) = 0

-- how fast a velocity goes down along its axis
abbrev pub downwards : ℤ → ℕ
downwards (pos n) = 0
downwards (negsuc n) = suc n

-- the velocity along an axis
abbrev pub velocity : Moves → ℕ → ℤ
velocity m axis = slice_index_or m.v axis (pos 0)

-- the rate at which a field passes a face upwards; a field without fluxes passes none
abbrev pub right_rate : Field → Moves → ℕ → ℕ → ℕ
right_rate f m axis level =
    if has WithFluxes f.flags then rate (upwards (velocity m axis)) m.k level else 0

-- the rate at which a field passes a face downwards
abbrev pub left_rate : Field → Moves → ℕ → ℕ → ℕ
left_rate f m axis level =
    if has WithFluxes f.flags then rate (downwards (velocity m axis)) m.k level else 0

-- both rates along an axis
abbrev pub both_rates : Field → Moves → ℕ → ℕ → ℕ
both_rates f m level axis = right_rate f m axis level + left_rate f m axis level

-- both rates, added up over the axes in use
abbrev pub rate_sum : ℕ → ℕ → Field → Moves → ℕ
rate_sum dims level f m = sum_by (both_rates f m level) (range_with_len 0 dims)

-- the root cells that lie behind a face that is normal to an axis
abbrev pub face_cells : List ℕ → ℕ → ℕ
face_cells size zero = slice_index size 1 * slice_index size 2
face_cells size (suc zero) = slice_index size 0 * slice_index size 2
face_cells size (suc (suc _)) = slice_index size 0 * slice_index size 1

-- what may come in through a face in a stage, the amount outside of it once for each root cell behind it
abbrev pub face_inflow : ℕ → List ℕ → List FaceKind → Moves → ℕ → ℕ
face_inflow dims size faces m i =
    if nat_lt (i / 2) dims && is_inflow (slice_index_or faces i Outflow)
    then slice_index m.entry i * face_cells size (i / 2)
    else 0

-- what may come in of a field in a stage, which needs ghost zones and fluxes
abbrev pub field_inflow : ℕ → List ℕ → List FaceKind → Field → Moves → ℕ
field_inflow dims size faces f m =
    if has FillGhost f.flags && has WithFluxes f.flags
    then sum_by (face_inflow dims size faces m) (range_with_len 0 (length faces))
    else 0

-- what may come in of all fields in a stage
abbrev pub stage_inflow : ℕ → List ℕ → List FaceKind → List Field → List Moves → ℕ
stage_inflow dims size faces fields moves =
    sum_by (λ (p : Field × Moves). field_inflow dims size faces p.0 p.1) (zip fields moves)

-- the cells of a part of the mesh along an axis, both ends included
abbrev pub span : List ℕ → List ℕ → ℕ → ℕ
span lo hi axis = slice_index hi axis + 1 - slice_index lo axis

-- what a box puts into all its cells
abbrev pub box_total : StartBox → ℕ
box_total b = span b.lo b.hi 0 * span b.lo b.hi 1 * span b.lo b.hi 2 * b.amount

-- the opening sum of all totals, and all that may come in during the run
abbrev pub bound : ℕ → List ℕ → List FaceKind → ℕ → ℕ → List Field → List Moves → List StartBox → ℕ
bound dims size faces nlim nstages fields moves boxes =
    sum_by box_total boxes + stage_inflow dims size faces fields moves * (nlim * nstages)
