-- Boxes that are updated by the boxes beside them.
use Rattle.std.specs.Prelude.{◌≡◌, ℕ, List, slice_index}
use Rattle.block_layout.specs.Indices.{IsWithin}
use Rattle.cell_boxes.specs.declared.boxes.BoxIn.{BoxIn}
use Rattle.cell_boxes.specs.Boxes.{address}
use Rattle.row_updates.specs.Numbers.{Numbers}

-- the boxes that are read: two of one list, and two of another
pub record Sources : Type 0 where
  pub one : List ℕ
  pub first : BoxIn
  pub second : BoxIn
  pub other : List ℕ
  pub third : BoxIn
  pub fourth : BoxIn

-- the numbers at an index of a box, and at the same index of the boxes that are read
abbrev pub numbers_in : List ℕ → BoxIn → Sources → List ℕ → Numbers
numbers_in own at from i = record {
  own = slice_index own (address at i);
  first = slice_index from.one (address from.first i);
  second = slice_index from.one (address from.second i);
  third = slice_index from.other (address from.third i);
  fourth = slice_index from.other (address from.fourth i);
}

-- a rule takes the numbers at each index of a box
abbrev pub TakesBox : (Numbers → Type 0) → List ℕ → List ℕ → BoxIn → Sources → Type 0
TakesBox takes extents own at from = (i : List ℕ) → IsWithin extents i → takes (numbers_in own at from i)

-- each number of a box is what a rule gives of the numbers at its index
abbrev pub IsUpdated : (Numbers → ℕ) → List ℕ → List ℕ → BoxIn → Sources → List ℕ → Type 0
IsUpdated gives extents old at from new = (i : List ℕ) → IsWithin extents i → slice_index new (address at i) ≡ gives (numbers_in old at from i)
