-- Rows of a box.
use Rattle.std.specs.Prelude.{ℕ, ◌<◌, List, [], ◌∷◌, slice_index}
use Rattle.cell_boxes.specs.declared.boxes.BoxIn.{BoxIn}
use Rattle.cell_boxes.specs.Boxes.{address}

-- a row of a box
pub record IsRowOf (extents : List ℕ) (row plane : ℕ) : Type 0 where
  pub row_in : row < slice_index extents 1
  pub plane_in : plane < slice_index extents 2

-- where a row begins
abbrev pub row_start : BoxIn → ℕ → ℕ → ℕ
row_start b row plane = address b (0 ∷ row ∷ plane ∷ [])

-- a whole list as a box of these extents
abbrev pub whole_box : List ℕ → BoxIn
whole_box extents = record { first = 0; widths = extents; low = 0 ∷ 0 ∷ 0 ∷ [] }
