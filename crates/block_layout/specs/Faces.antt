-- The faces of a block's cells, as the lists of what passes them to the right and to the left have them: those of x1, then of x2,
-- then of x3, x1 fastest.
use Rattle.std.specs.Prelude.{ℕ, zero, suc, ◌+◌, Bool, cond, nat_lt, List, slice_index}
use Rattle.block_layout.specs.declared.layout.Layout.{Layout}
use Rattle.block_layout.specs.Indices.{count_of, number_of, with_along}
use Rattle.block_layout.specs.Layouts.{cells_along}

-- the faces that are normal to an axis lie in a box with one more of them along the axis than cells
abbrev pub face_extents : Layout → ℕ → List ℕ
face_extents l axis = with_along axis (cells_along l axis + 1) l.cells

-- how many faces are normal to an axis, none where it is not in use
abbrev pub faces_along : Layout → ℕ → ℕ
faces_along l axis = cond (nat_lt axis l.dims) (count_of (face_extents l axis)) 0

-- the number of the first face that is normal to an axis: all those of the axes before come before
abbrev pub first_face : Layout → ℕ → ℕ
first_face l zero = 0
first_face l (suc axis) = first_face l axis + faces_along l axis

-- how many faces a block has: 5 for 4 cells in one dimension, 40 for 4 by 4 cells in two
abbrev pub face_count : Layout → ℕ
face_count l = faces_along l 0 + faces_along l 1 + faces_along l 2

-- the number of the face below the cell of an index, which counts interior cells from 0; one past the last cell it is the high side
abbrev pub face_number : Layout → ℕ → List ℕ → ℕ
face_number l axis i = first_face l axis + number_of (face_extents l axis) i

-- the number of a face of an interior cell
abbrev pub face_of : Layout → List ℕ → ℕ → Bool → ℕ
face_of l i axis high = face_number l axis (with_along axis (slice_index i axis + cond high 1 0) i)
