-- For the code: where the faces at a side of a block lie.
use Rattle.std.specs.Prelude.{◌≡◌, ℕ, Bool, true, false, cond, ◌&&◌, List, [], ◌∷◌, slice_index}
use Rattle.block_layout.specs.declared.layout.Layout.{Layout}
use Rattle.block_layout.specs.Indices.{IsWithin, with_along}
use Rattle.block_layout.specs.Faces.{face_extents, face_number, first_face}
use Rattle.cell_boxes.specs.declared.boxes.BoxIn.{BoxIn}
use Rattle.upwind_fluxes.specs.Fluxes.{AreAlong, is_at_side, side_at}

-- one layer of faces
abbrev pub side_extents : Layout → ℕ → List ℕ
side_extents l axis = with_along axis 1 l.cells

-- it begins at the side along the axis
abbrev pub side_box : Layout → ℕ → Bool → BoxIn
side_box l axis high = record { first = first_face l axis; widths = face_extents l axis; low = with_along axis (side_at l axis high) (0 ∷ 0 ∷ 0 ∷ []) }

-- nothing passes the faces at a side
abbrev pub IsClosedAt : Layout → ℕ → Bool → List ℕ → Type 0
IsClosedAt l axis high list = (i : List ℕ) → IsWithin (face_extents l axis) i → is_at_side l axis high i ≡ true → slice_index list (face_number l axis i) ≡ 0

-- the other faces of its axis have what they had
abbrev pub StaysOff : Layout → ℕ → Bool → List ℕ → List ℕ → Type 0
StaysOff l axis high old new = (i : List ℕ) → IsWithin (face_extents l axis) i → is_at_side l axis high i ≡ false →
    slice_index new (face_number l axis i) ≡ slice_index old (face_number l axis i)

-- both, where the side is closed; else all faces of its axis have what they had
abbrev pub ClosesIf : Bool → Layout → ℕ → Bool → List ℕ → List ℕ → Type 0
ClosesIf closed l axis high old new = AreAlong l axis (λ i. cond (closed && is_at_side l axis high i) 0 (slice_index old (face_number l axis i))) new
