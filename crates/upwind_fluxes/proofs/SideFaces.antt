-- The faces at a side of a block.
use Rattle.std.proofs.Common.{◌≡◌, ◌≢◌, ◌==◌, ◌||◌, ℕ, zero, suc, ◌+◌, ◌*◌, ◌<◌, ◌≤◌, Bool, true, false, cond, List, [], ◌∷◌, slice_index, sym, ◌∙◌, ap, subst, refl, arith}
use Rattle.std.proofs.lemmas.Bool.Decides.{nat_tests}
use Rattle.block_layout.specs.declared.layout.Layout.{Layout}
use Rattle.block_layout.specs.Sizes.{IsLayout}
use Rattle.block_layout.specs.Indices.{IsWithin, added, with_along}
use Rattle.block_layout.specs.Layouts.{cells_along}
use Rattle.block_layout.specs.Faces.{face_extents, face_number, first_face}
use Rattle.block_layout.proofs.FaceNumbers.{one_axis, one_index}
use Rattle.cell_boxes.specs.declared.boxes.BoxIn.{BoxIn}
use Rattle.cell_boxes.specs.Boxes.{address}
use Rattle.upwind_fluxes.specs.Fluxes.{is_at_side, side_at}
use Rattle.upwind_fluxes.specs.Sides.{side_box, side_extents}

is_same : (a b : ℕ) → (a == b) ≡ true → a ≡ b
is_same a b h = grind (arith, nat_tests)

is_other : (a b : ℕ) → (a == b) ≡ false → a ≡ b → ⊥
is_other a b h e = grind (arith, nat_tests)

-- where a side lies, from the corner of the faces
abbrev pub side_low : Layout → ℕ → Bool → List ℕ
side_low l axis high = with_along axis (side_at l axis high) (0 ∷ 0 ∷ 0 ∷ [])

side_at_most : (l : Layout) (axis : ℕ) (high : Bool) → side_at l axis high ≤ cells_along l axis
side_at_most l axis true = omega arith
side_at_most l axis false = omega arith

-- a face at a side is named by its index without the one along the axis
pub side_number : (l : Layout) (axis : ℕ) (high : Bool) (j : List ℕ) → axis < 3 → slice_index j axis ≡ side_at l axis high → address (side_box l axis high) (with_along axis 0 j) ≡ face_number l axis j
side_number l zero high j u e = ap (λ (n : ℕ). first_face l zero + n) (first (slice_index j 0) (side_at l zero high) (slice_index j 1) (slice_index j 2) (slice_index (face_extents l 0) 0) (slice_index (face_extents l 0) 1) e)
  where
    first : (x s y z n m : ℕ) → x ≡ s → s + 0 + n * (0 + y + m * (0 + z)) ≡ x + n * (y + m * z)
    first x s y z n m e = omega arith
side_number l (suc zero) high j u e = ap (λ (n : ℕ). first_face l 1 + n) (second (slice_index j 0) (slice_index j 1) (side_at l 1 high) (slice_index j 2) (slice_index (face_extents l 1) 0) (slice_index (face_extents l 1) 1) e)
  where
    second : (x y s z n m : ℕ) → y ≡ s → 0 + x + n * (s + 0 + m * (0 + z)) ≡ x + n * (y + m * z)
    second x y s z n m e = rw e (omega arith)
side_number l (suc (suc zero)) high j u e = ap (λ (n : ℕ). first_face l 2 + n) (third (slice_index j 0) (slice_index j 1) (slice_index j 2) (side_at l 2 high) (slice_index (face_extents l 2) 0) (slice_index (face_extents l 2) 1) e)
  where
    third : (x y z s n m : ℕ) → z ≡ s → 0 + x + n * (0 + y + m * (s + 0)) ≡ x + n * (y + m * z)
    third x y z s n m e = rw e (omega arith)
side_number l (suc (suc (suc _))) high j u e = absurd (omega arith)

pub side_within : (l : Layout) (axis : ℕ) (j : List ℕ) → axis < 3 → IsWithin (face_extents l axis) j → IsWithin (side_extents l axis) (with_along axis 0 j)
side_within l zero j u w = record { along1 = omega arith; along2 = w.along2; along3 = w.along3 }
side_within l (suc zero) j u w = record { along1 = w.along1; along2 = omega arith; along3 = w.along3 }
side_within l (suc (suc _)) j u w = record { along1 = w.along1; along2 = w.along2; along3 = omega arith }

-- what lies in one layer of faces is a face
pub side_face : (l : Layout) (axis : ℕ) (high : Bool) (i : List ℕ) → axis < 3 → IsWithin (side_extents l axis) i → IsWithin (face_extents l axis) (added (side_low l axis high) i)
side_face l zero high i u w = record { along1 = omega (arith, w.along1, side_at_most l 0 high); along2 = omega (arith, w.along2); along3 = omega (arith, w.along3) }
side_face l (suc zero) high i u w = record { along1 = omega (arith, w.along1); along2 = omega (arith, w.along2, side_at_most l 1 high); along3 = omega (arith, w.along3) }
side_face l (suc (suc zero)) high i u w = record { along1 = omega (arith, w.along1); along2 = omega (arith, w.along2); along3 = omega (arith, w.along3, side_at_most l 2 high) }
side_face l (suc (suc (suc _))) high i u w = absurd (omega arith)

-- and stands at the side
side_coordinate : (l : Layout) (axis : ℕ) (high : Bool) (i : List ℕ) → axis < 3 → IsWithin (side_extents l axis) i → slice_index (added (side_low l axis high) i) axis ≡ side_at l axis high
side_coordinate l zero high i u w = omega (arith, w.along1)
side_coordinate l (suc zero) high i u w = omega (arith, w.along2)
side_coordinate l (suc (suc zero)) high i u w = omega (arith, w.along3)
side_coordinate l (suc (suc (suc _))) high i u w = absurd (omega arith)

same_along : (axis : ℕ) (i j : List ℕ) → axis < 3 → slice_index i 0 ≡ slice_index j 0 → slice_index i 1 ≡ slice_index j 1 → slice_index i 2 ≡ slice_index j 2 → slice_index i axis ≡ slice_index j axis
same_along zero i j u a b c = a
same_along (suc zero) i j u a b c = b
same_along (suc (suc zero)) i j u a b c = c
same_along (suc (suc (suc _))) i j u a b c = absurd (omega arith)

-- a face of the axis that does not stand at the side is none of the layer
pub open_face : (l : Layout) (axis : ℕ) (high : Bool) (i j : List ℕ) → IsLayout l.dims l.cells → axis < l.dims → IsWithin (face_extents l axis) j → is_at_side l axis high j ≡ false → IsWithin (side_extents l axis) i
    → face_number l axis j ≢ address (side_box l axis high) i
open_face l axis high i j sound u w apart z = λ e.
    let v : axis < 3 = omega (arith, sound.most) in
    let same = one_index l axis j (added (side_low l axis high) i) sound u w (side_face l axis high i v z) e in
    is_other (slice_index j axis) (side_at l axis high) apart
    (same_along axis j (added (side_low l axis high) i) v same.along1 same.along2 same.along3 ∙ side_coordinate l axis high i v z)

-- nor is a face of another axis
pub other_side_face : (l : Layout) (axis other : ℕ) (high : Bool) (i j : List ℕ) → IsLayout l.dims l.cells → axis < l.dims → other < l.dims → other ≢ axis → IsWithin (face_extents l other) j → IsWithin (side_extents l axis) i
    → face_number l other j ≢ address (side_box l axis high) i
other_side_face l axis other high i j sound u v different w z = λ e.
    different (one_axis l other axis j (added (side_low l axis high) i) sound v u w (side_face l axis high i (omega (arith, sound.most)) z) e)

-- what was written at the addresses of the layer stands at the numbers of the faces at the side
pub closed_faces : (l : Layout) (axis : ℕ) (high : Bool) (new extents : List ℕ) (b : BoxIn) → axis < 3 → extents ≡ side_extents l axis → b ≡ side_box l axis high
    → ((i : List ℕ) → IsWithin extents i → slice_index new (address b i) ≡ 0)
    → (j : List ℕ) → IsWithin (face_extents l axis) j → is_at_side l axis high j ≡ true → slice_index new (face_number l axis j) ≡ 0
closed_faces l axis high new extents b u p q h j w at =
    let i = with_along axis 0 j in
    let e : address b i ≡ face_number l axis j = ap (λ (x : BoxIn). address x i) q ∙ side_number l axis high j u (is_same (slice_index j axis) (side_at l axis high) at) in
    ap (slice_index new) (sym e) ∙ h i (subst (λ (n : List ℕ). IsWithin n i) (sym p) (side_within l axis j u w))

-- closed at one side and then at the other
pub closed_at_either : (low high : Bool) (x : ℕ) → cond high 0 (cond low 0 x) ≡ cond (low || high) 0 x
closed_at_either true true x = refl
closed_at_either true false x = refl
closed_at_either false true x = refl
closed_at_either false false x = refl
