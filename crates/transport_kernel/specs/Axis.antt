-- For the code: a pass along one axis, and where its cells and faces lie.
use Rattle.std.specs.Prelude.{◌≡◌, ℕ, ◌+◌, ◌-◌, ◌<◌, ◌≤◌, ◌^◌, Bool, cond, List, [], ◌∷◌, slice_index}
use Rattle.block_layout.specs.declared.layout.Layout.{Layout}
use Rattle.block_layout.specs.Indices.{IsWithin, with_along}
use Rattle.block_layout.specs.Layouts.{ghost_layers, widths}
use Rattle.block_layout.specs.Faces.{face_extents, first_face}
use Rattle.cell_boxes.specs.declared.boxes.BoxIn.{BoxIn}
use Rattle.transport_kernel.specs.Update.{gain_along, loss_along, total_at}

-- the cells of a block along each axis
abbrev pub cell_extents : Layout → List ℕ
cell_extents l = slice_index l.cells 0 ∷ slice_index l.cells 1 ∷ slice_index l.cells 2 ∷ []

-- its interior cells
abbrev pub cells_box : Layout → BoxIn
cells_box l = record { first = 0; widths = widths l; low = ghost_layers l 0 ∷ ghost_layers l 1 ∷ ghost_layers l 2 ∷ [] }

-- the faces at one side of them
abbrev pub faces_box : Layout → ℕ → Bool → BoxIn
faces_box l axis high = record { first = first_face l axis; widths = face_extents l axis; low = with_along axis (cond high 1 0) (0 ∷ 0 ∷ 0 ∷ []) }

-- no cell loses more than it has along an axis, and none comes to 2^63
pub record CanPassAlong (l : Layout) (axis : ℕ) (right left : ℕ → List ℕ → ℕ) (cells : List ℕ) : Type 0 where
  pub pays : (i : List ℕ) → IsWithin l.cells i → loss_along right left i axis ≤ total_at l cells i
  pub small : (i : List ℕ) → IsWithin l.cells i → total_at l cells i + gain_along right left i axis < 2 ^ 63

-- each interior cell has gained and lost along an axis
abbrev pub HasPassedAlong : Layout → ℕ → (ℕ → List ℕ → ℕ) → (ℕ → List ℕ → ℕ) → List ℕ → List ℕ → Type 0
HasPassedAlong l axis right left cells new =
    (i : List ℕ) → IsWithin l.cells i → total_at l new i ≡ total_at l cells i + gain_along right left i axis - loss_along right left i axis
