-- Where the cells and the faces of a block lie.
use Rattle.std.proofs.Common.{◌≡◌, ℕ, zero, suc, ◌+◌, ◌*◌, ◌<◌, ◌≤◌, Bool, true, false, cond, List, slice_index, arith, zero-add}
use Rattle.block_layout.specs.declared.layout.Layout.{Layout}
use Rattle.block_layout.specs.Sizes.{IsLayout}
use Rattle.block_layout.specs.Indices.{IsWithin, count_of}
use Rattle.block_layout.specs.Layouts.{cells_along, len}
use Rattle.block_layout.specs.Faces.{face_count, face_extents, face_number, first_face}
use Rattle.block_layout.proofs.FaceNumbers.{faces_in_use, rising, whole_count}
use Rattle.cell_boxes.specs.Boxes.{HasCells, IsBoxIn, address}
use Rattle.transport_kernel.specs.Axis.{cell_extents, cells_box, faces_box}
use Rattle.transport_kernel.specs.Update.{cell_place, face_beside}

-- an interior cell is a cell of the box of that many
pub in_extents : (l : Layout) (i : List ℕ) → IsWithin l.cells i → IsWithin (cell_extents l) i
in_extents l i w = record { along1 = w.along1; along2 = w.along2; along3 = w.along3 }

pub from_extents : (l : Layout) (i : List ℕ) → IsWithin (cell_extents l) i → IsWithin l.cells i
from_extents l i w = record { along1 = w.along1; along2 = w.along2; along3 = w.along3 }

pub has_cells : (l : Layout) → IsLayout l.dims l.cells → HasCells (cell_extents l)
has_cells l s = record { along1 = s.cells1.least; along2 = s.cells2.least; along3 = s.cells3.least }

pub cells_lie : (l : Layout) (n : ℕ) → n ≡ len l → IsBoxIn (cell_extents l) (cells_box l) n
cells_lie l n e = record { along1 = omega arith; along2 = omega arith; along3 = omega arith; within = omega arith }

pub cell_address : (l : Layout) (i : List ℕ) → address (cells_box l) i ≡ cell_place l i
cell_address l i = zero-add (cell_place l i)

-- the faces of an axis lie in the list
pub faces_fit : (l : Layout) (axis n : ℕ) → IsLayout l.dims l.cells → axis < l.dims → n ≡ face_count l → first_face l axis + count_of (face_extents l axis) ≤ n
faces_fit l axis n s u e = omega (arith, faces_in_use l axis u, rising l axis 3 (omega (arith, s.most)), whole_count l)

pub one_more : (high : Bool) (n : ℕ) → cond high 1 0 + n ≤ n + 1
one_more true n = omega arith
one_more false n = omega arith

pub faces_lie : (l : Layout) (axis : ℕ) (high : Bool) (n : ℕ) → IsLayout l.dims l.cells → axis < l.dims → n ≡ face_count l → IsBoxIn (cell_extents l) (faces_box l axis high) n
faces_lie l zero high n s u e = record { along1 = one_more high (cells_along l 0); along2 = omega arith; along3 = omega arith; within = faces_fit l 0 n s u e }
faces_lie l (suc zero) high n s u e = record { along1 = omega arith; along2 = one_more high (cells_along l 1); along3 = omega arith; within = faces_fit l 1 n s u e }
faces_lie l (suc (suc zero)) high n s u e = record { along1 = omega arith; along2 = omega arith; along3 = one_more high (cells_along l 2); within = faces_fit l 2 n s u e }
faces_lie l (suc (suc (suc a))) high n s u e = absurd (omega (arith, s.most))

-- the face at one side of a cell
pub face_address : (l : Layout) (axis : ℕ) (high : Bool) (i : List ℕ) → axis < 3 → address (faces_box l axis high) i ≡ face_number l axis (face_beside i axis high)
face_address l zero high i u = first (first_face l 0) (slice_index i 0) (cond high 1 0) (slice_index i 1) (slice_index i 2) (slice_index (face_extents l 0) 0) (slice_index (face_extents l 0) 1)
  where
    first : (f x s y z n m : ℕ) → f + (s + x + n * (0 + y + m * (0 + z))) ≡ f + (x + s + n * (y + m * z))
    first f x s y z n m = omega arith
face_address l (suc zero) high i u = second (first_face l 1) (slice_index i 0) (slice_index i 1) (cond high 1 0) (slice_index i 2) (slice_index (face_extents l 1) 0) (slice_index (face_extents l 1) 1)
  where
    second : (f x y s z n m : ℕ) → f + (0 + x + n * (s + y + m * (0 + z))) ≡ f + (x + n * (y + s + m * z))
    second f x y s z n m = omega arith
face_address l (suc (suc zero)) high i u = third (first_face l 2) (slice_index i 0) (slice_index i 1) (slice_index i 2) (cond high 1 0) (slice_index (face_extents l 2) 0) (slice_index (face_extents l 2) 1)
  where
    third : (f x y z s n m : ℕ) → f + (0 + x + n * (0 + y + m * (s + z))) ≡ f + (x + n * (y + m * (z + s)))
    third f x y z s n m = omega arith
face_address l (suc (suc (suc a))) high i u = absurd (omega arith)
