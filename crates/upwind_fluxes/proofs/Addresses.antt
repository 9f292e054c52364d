-- Where the faces of an axis lie, and the cells beside them.
use Rattle.std.proofs.Common.{◌≡◌, ◌≢◌, ℕ, ◌+◌, ◌*◌, ◌<◌, List, [], ◌∷◌, slice_index, sym, ◌∙◌, ap, subst, zero-add, arith}
use Rattle.block_layout.specs.declared.layout.Layout.{Layout}
use Rattle.block_layout.specs.Sizes.{IsLayout}
use Rattle.block_layout.specs.Indices.{IsWithin, added, number_of}
use Rattle.block_layout.specs.Layouts.{place, widths}
use Rattle.block_layout.specs.Faces.{face_extents, face_number, first_face}
use Rattle.block_layout.proofs.FaceNumbers.{one_axis}
use Rattle.cell_boxes.specs.declared.boxes.BoxIn.{BoxIn}
use Rattle.cell_boxes.specs.Boxes.{address}
use Rattle.upwind_fluxes.specs.declared.donor.Donor.{Donor}
use Rattle.upwind_fluxes.specs.Beside.{beside_face, cells_beside}

-- an index that begins at the lowest corner is itself
number_from_corner : (n i : List ℕ) → number_of n (added (0 ∷ 0 ∷ 0 ∷ []) i) ≡ number_of n i
number_from_corner n i = corner (slice_index i 0) (slice_index i 1) (slice_index i 2) (slice_index n 0) (slice_index n 1)
  where
    corner : (x y z n m : ℕ) → 0 + x + n * (0 + y + m * (0 + z)) ≡ x + n * (y + m * z)
    corner x y z n m = omega arith

pub face_address : (l : Layout) (axis first : ℕ) (extents i : List ℕ) → first ≡ first_face l axis → extents ≡ face_extents l axis
    → address (record { first = first; widths = extents; low = 0 ∷ 0 ∷ 0 ∷ [] }) i ≡ face_number l axis i
face_address l axis first extents i p q =
    ap (λ (n : ℕ). first + n) (number_from_corner extents i)
    ∙ ap (λ (n : ℕ). n + number_of extents i) p
    ∙ ap (λ (e : List ℕ). first_face l axis + number_of e i) q

pub beside_address : (l : Layout) (axis : ℕ) (donor : Donor) (from : BoxIn) (i : List ℕ) → from ≡ cells_beside l axis donor → address from i ≡ place l (beside_face l axis donor i)
beside_address l axis donor from i r =
    ap (λ (b : BoxIn). address b i) r ∙ zero-add (number_of (widths l) (beside_face l axis donor i))

-- what was written at the addresses of a box of faces stands at the faces' numbers
pub written_faces : (l : Layout) (axis : ℕ) (donor : Donor) (gives : ℕ → ℕ) (cells new : List ℕ) (first : ℕ) (extents : List ℕ) (from : BoxIn)
    → first ≡ first_face l axis → extents ≡ face_extents l axis → from ≡ cells_beside l axis donor
    → ((i : List ℕ) → IsWithin extents i → slice_index new (address (record { first = first; widths = extents; low = 0 ∷ 0 ∷ 0 ∷ [] }) i) ≡ gives (slice_index cells (address from i)))
    → (i : List ℕ) → IsWithin (face_extents l axis) i → slice_index new (face_number l axis i) ≡ gives (slice_index cells (place l (beside_face l axis donor i)))
written_faces l axis donor gives cells new first extents from p q r h i w =
    ap (slice_index new) (sym (face_address l axis first extents i p q))
    ∙ h i (subst (λ (n : List ℕ). IsWithin n i) (sym q) w)
    ∙ ap (λ (n : ℕ). gives (slice_index cells n)) (beside_address l axis donor from i r)

-- the faces of another axis are none of a box of faces
pub other_face : (l : Layout) (axis other first : ℕ) (extents i j : List ℕ) → IsLayout l.dims l.cells → axis < l.dims → other < l.dims → other ≢ axis
    → first ≡ first_face l axis → extents ≡ face_extents l axis → IsWithin (face_extents l other) i → IsWithin extents j
    → face_number l other i ≢ address (record { first = first; widths = extents; low = 0 ∷ 0 ∷ 0 ∷ [] }) j
other_face l axis other first extents i j sound u v different p q w z = λ e.
    different (one_axis l other axis i j sound v u w (subst (λ (n : List ℕ). IsWithin n j) q z) (e ∙ face_address l axis first extents j p q))
