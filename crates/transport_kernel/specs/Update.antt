-- A stage on the interior cells of a block, by what passes their faces.
use Rattle.std.specs.Prelude.{◌≡◌, ◌≢◌, ℕ, zero, suc, ◌+◌, ◌-◌, ◌<◌, ◌≤◌, ◌^◌, Bool, true, false, cond, List, slice_index}
use Rattle.block_layout.specs.declared.layout.Layout.{Layout}
use Rattle.block_layout.specs.Indices.{IsWithin, added, with_along}
use Rattle.block_layout.specs.Layouts.{place}
use Rattle.block_layout.specs.Regions.{interior}
use Rattle.block_layout.specs.Faces.{face_number}

-- the sum of what each axis in use gives
abbrev pub sum_axes : ℕ → (ℕ → ℕ) → ℕ
sum_axes zero each = 0
sum_axes (suc axis) each = sum_axes axis each + each axis

-- a face of an interior cell along an axis: below it the face has the cell's own index, above it the next one
abbrev pub face_beside : List ℕ → ℕ → Bool → List ℕ
face_beside i axis high = with_along axis (slice_index i axis + cond high 1 0) i

-- what a cell gains along an axis: what passes to the right through its low face, and to the left through its high face
abbrev pub gain_along : (ℕ → List ℕ → ℕ) → (ℕ → List ℕ → ℕ) → List ℕ → ℕ → ℕ
gain_along right left i axis = right axis (face_beside i axis false) + left axis (face_beside i axis true)

-- what it loses along an axis: to the left through its low face, and to the right through its high face
abbrev pub loss_along : (ℕ → List ℕ → ℕ) → (ℕ → List ℕ → ℕ) → List ℕ → ℕ → ℕ
loss_along right left i axis = left axis (face_beside i axis false) + right axis (face_beside i axis true)

-- what it gains and loses along the axes in use
abbrev pub gain : ℕ → (ℕ → List ℕ → ℕ) → (ℕ → List ℕ → ℕ) → List ℕ → ℕ
gain dims right left i = sum_axes dims (gain_along right left i)

abbrev pub loss : ℕ → (ℕ → List ℕ → ℕ) → (ℕ → List ℕ → ℕ) → List ℕ → ℕ
loss dims right left i = sum_axes dims (loss_along right left i)

-- what a list says of the face of an index along an axis
abbrev pub listed : Layout → List ℕ → ℕ → List ℕ → ℕ
listed l list axis i = slice_index list (face_number l axis i)

-- where an interior cell lies in the list of a block; its index counts interior cells from 0
abbrev pub cell_place : Layout → List ℕ → ℕ
cell_place l i = place l (added (interior l).low i)

-- the total of an interior cell
abbrev pub total_at : Layout → List ℕ → List ℕ → ℕ
total_at l cells i = slice_index cells (cell_place l i)

-- no interior cell loses more than it has, and none comes to 2^63: what passes is given for each face, by axis and index
pub record CanPass (l : Layout) (right left : ℕ → List ℕ → ℕ) (cells : List ℕ) : Type 0 where
  pub pays : (i : List ℕ) → IsWithin l.cells i → loss l.dims right left i ≤ total_at l cells i
  pub small : (i : List ℕ) → IsWithin l.cells i → total_at l cells i + gain l.dims right left i < 2 ^ 63

-- each interior cell has what it had, and what it gained, less what it lost: 8 with 3 gained and 2 lost is 9
abbrev pub HasPassed : Layout → (ℕ → List ℕ → ℕ) → (ℕ → List ℕ → ℕ) → List ℕ → List ℕ → Type 0
HasPassed l right left cells new = (i : List ℕ) → IsWithin l.cells i → total_at l new i ≡ total_at l cells i + gain l.dims right left i - loss l.dims right left i

-- every place that no interior cell has is as it was
abbrev pub GhostsStay : Layout → List ℕ → List ℕ → Type 0
GhostsStay l old new = (n : ℕ) → ((i : List ℕ) → IsWithin l.cells i → n ≢ cell_place l i) → slice_index new n ≡ slice_index old n
