-- The cells beside a face.
use Rattle.std.specs.Prelude.{ℕ, ◌-◌, List, [], ◌∷◌}
use Rattle.block_layout.specs.declared.layout.Layout.{Layout}
use Rattle.block_layout.specs.Indices.{added, with_along}
use Rattle.block_layout.specs.Layouts.{ghost_layers, widths}
use Rattle.block_layout.specs.Faces.{face_extents, first_face}
use Rattle.cell_boxes.specs.declared.boxes.BoxIn.{BoxIn}
use Rattle.upwind_fluxes.specs.declared.donor.Donor.{Donor}
use Rattle.upwind_fluxes.specs.declared.donor.Donor.TheVariants.{Below, Above}

-- by how many cells a donor lies below the face
abbrev pub steps_below : Donor → ℕ
steps_below Below = 1
steps_below Above = 0

-- the cell at one side of the first face of an axis, counted from the first ghost
abbrev pub lowest_beside : Layout → ℕ → Donor → List ℕ
lowest_beside l axis donor = with_along axis (ghost_layers l axis - steps_below donor) (ghost_layers l 0 ∷ ghost_layers l 1 ∷ ghost_layers l 2 ∷ [])

-- the cell of a block at one side of the face of an index: face 0 of x1 has the second ghost below it, and the first interior
-- cell above it
abbrev pub beside_face : Layout → ℕ → Donor → List ℕ → List ℕ
beside_face l axis donor i = added (lowest_beside l axis donor) i

-- for the code: where these cells lie
abbrev pub cells_beside : Layout → ℕ → Donor → BoxIn
cells_beside l axis donor = record { first = 0; widths = widths l; low = lowest_beside l axis donor }

-- for the code: where the faces of an axis lie
abbrev pub faces_box : Layout → ℕ → BoxIn
faces_box l axis = record { first = first_face l axis; widths = face_extents l axis; low = 0 ∷ 0 ∷ 0 ∷ [] }
