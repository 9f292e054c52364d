-- For the code: where the cells beside the faces of an axis lie.
use Rattle.std.specs.Prelude.{ℕ, [], ◌∷◌}
use Rattle.block_layout.specs.declared.layout.Layout.{Layout}
use Rattle.block_layout.specs.Indices.{with_along}
use Rattle.block_layout.specs.Layouts.{ghost_layers, widths}
use Rattle.block_layout.specs.Faces.{face_extents, first_face}
use Rattle.cell_boxes.specs.declared.boxes.BoxIn.{BoxIn}
use Rattle.upwind_fluxes.specs.declared.donor.Donor.{Donor}
use Rattle.upwind_fluxes.specs.declared.donor.Donor.TheVariants.{Below, Above}

-- the cells of one number, 0 to 3 by rising coordinate
abbrev pub cells_beside : Layout → ℕ → ℕ → BoxIn
cells_beside l axis number = record { first = 0; widths = widths l; low = with_along axis number (ghost_layers l 0 ∷ ghost_layers l 1 ∷ ghost_layers l 2 ∷ []) }

-- the faces themselves
abbrev pub faces_of : Layout → ℕ → BoxIn
faces_of l axis = record { first = first_face l axis; widths = face_extents l axis; low = 0 ∷ 0 ∷ 0 ∷ [] }

-- the numbers of the cells behind those that pay, of those, and of those ahead
abbrev pub number_behind : Donor → ℕ
number_behind Below = 0
number_behind Above = 3

abbrev pub number_here : Donor → ℕ
number_here Below = 1
number_here Above = 2

abbrev pub number_ahead : Donor → ℕ
number_ahead Below = 2
number_ahead Above = 1
