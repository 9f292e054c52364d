-- Boxes that lie in boxes, which lie in lists.
use Rattle.std.specs.Prelude.{◌≡◌, ◌≢◌, ℕ, ◌+◌, ◌≤◌, List, slice_index}
use Rattle.block_layout.specs.Indices.{IsWithin, added, count_of, number_of}
use Rattle.cell_boxes.specs.declared.boxes.BoxIn.{BoxIn}

-- a box with one cell or more along each axis
pub record HasCells (extents : List ℕ) : Type 0 where
  pub along1 : 1 ≤ slice_index extents 0
  pub along2 : 1 ≤ slice_index extents 1
  pub along3 : 1 ≤ slice_index extents 2

-- a box of these extents lies in the one that a list of n numbers has
pub record IsBoxIn (extents : List ℕ) (b : BoxIn) (n : ℕ) : Type 0 where
  pub along1 : slice_index b.low 0 + slice_index extents 0 ≤ slice_index b.widths 0
  pub along2 : slice_index b.low 1 + slice_index extents 1 ≤ slice_index b.widths 1
  pub along3 : slice_index b.low 2 + slice_index extents 2 ≤ slice_index b.widths 2
  pub within : b.first + count_of b.widths ≤ n

-- where the number of an index of the box lies in the list
abbrev pub address : BoxIn → List ℕ → ℕ
address b i = b.first + number_of b.widths (added b.low i)

-- each number of a box is what the number at its index in the box of another list gives
abbrev pub HasBox : (ℕ → ℕ) → List ℕ → List ℕ → BoxIn → List ℕ → BoxIn → Type 0
HasBox gives extents from a into b = (i : List ℕ) → IsWithin extents i → slice_index into (address b i) ≡ gives (slice_index from (address a i))

-- each place that no index of a box has is as it was
abbrev pub StaysOffBox : List ℕ → BoxIn → List ℕ → List ℕ → Type 0
StaysOffBox extents b old new = (n : ℕ) → ((i : List ℕ) → IsWithin extents i → n ≢ address b i) → slice_index new n ≡ slice_index old n
