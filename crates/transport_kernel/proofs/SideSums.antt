-- Sums over the faces at a side.
use Rattle.std.proofs.Common.{◌≡◌, ℕ, zero, suc, ◌+◌, ◌-◌, ◌*◌, ◌<◌, ◌≤◌, Bool, true, false, List, [], ◌∷◌, slice_index, sym, ◌∙◌, ap, subst, arith, refl, add-one}
use Rattle.block_layout.specs.declared.layout.Layout.{Layout}
use Rattle.block_layout.specs.Sizes.{IsLayout}
use Rattle.block_layout.specs.Indices.{IsWithin}
use Rattle.block_layout.specs.Layouts.{cells_along}
use Rattle.block_layout.specs.Faces.{face_count, face_extents, face_number, first_face}
use Rattle.block_layout.proofs.FaceNumbers.{number_within}
use Rattle.block_layout.proofs.Sizes.{cells_at_most}
use Rattle.upwind_fluxes.specs.Fluxes.{side_at}
use Rattle.transport_kernel.specs.Passed.{face_at_side, passed_at, side_faces, sum_below}

pub sum_same : (n : ℕ) (f g : ℕ → ℕ) → ((k : ℕ) → k < n → f k ≡ g k) → sum_below n f ≡ sum_below n g
sum_same zero f g same = refl
sum_same (suc n) f g same = let a = sum_same n f g (λ k h. same k (omega arith)) in let b = same n (omega arith) in cc

pub one_more : (n : ℕ) (f : ℕ → ℕ) (sum : ℕ) → sum ≡ sum_below n f → sum + f n ≡ sum_below (n + 1) f
one_more n f sum e = ap (λ (v : ℕ). v + f n) e ∙ ap (λ (v : ℕ). sum_below v f) (sym (add-one n))

side_most : (l : Layout) (axis : ℕ) (high : Bool) → side_at l axis high < cells_along l axis + 1
side_most l axis true = omega arith
side_most l axis false = omega arith

-- the index of a face at a side is one of its axis
pub side_within : (l : Layout) (axis : ℕ) (high : Bool) (i : List ℕ) → axis < 3 → IsWithin (side_faces l axis) i → IsWithin (face_extents l axis) (face_at_side l axis high i)
side_within l zero high i u w = record { along1 = side_most l 0 high; along2 = w.along2; along3 = w.along3 }
side_within l (suc zero) high i u w = record { along1 = w.along1; along2 = side_most l 1 high; along3 = w.along3 }
side_within l (suc (suc zero)) high i u w = record { along1 = w.along1; along2 = w.along2; along3 = side_most l 2 high }
side_within l (suc (suc (suc a))) high i u w = absurd (omega arith)

-- and its number is so many rows and planes on
pub side_number : (l : Layout) (axis : ℕ) (high : Bool) (x y z : ℕ) → axis < 3 → IsWithin (side_faces l axis) (x ∷ y ∷ z ∷ [])
    → face_number l axis (face_at_side l axis high (0 ∷ 0 ∷ 0 ∷ [])) + z * (slice_index (face_extents l axis) 0 * slice_index (face_extents l axis) 1) + y * slice_index (face_extents l axis) 0 + x
    ≡ face_number l axis (face_at_side l axis high (x ∷ y ∷ z ∷ []))
side_number l zero high x y z u w = first (first_face l 0) (side_at l 0 high) x y z (slice_index (face_extents l 0) 0) (slice_index (face_extents l 0) 1) w.along1
  where
    first : (f s x y z n m : ℕ) → x < 1 → f + (s + n * (0 + m * 0)) + z * (n * m) + y * n + x ≡ f + (s + n * (y + m * z))
    first f s x y z n m h = omega arith
side_number l (suc zero) high x y z u w = second (first_face l 1) (side_at l 1 high) x y z (slice_index (face_extents l 1) 0) (slice_index (face_extents l 1) 1) (none y w.along2)
  where
    none : (v : ℕ) → v < 1 → v ≡ 0
    none v h = omega arith

    second : (f s x y z n m : ℕ) → y ≡ 0 → f + (0 + n * (s + m * 0)) + z * (n * m) + y * n + x ≡ f + (x + n * (s + m * z))
    second f s x y z n m h = rw h (omega arith)
side_number l (suc (suc zero)) high x y z u w = third (first_face l 2) (side_at l 2 high) x y z (slice_index (face_extents l 2) 0) (slice_index (face_extents l 2) 1) (none z w.along3)
  where
    none : (v : ℕ) → v < 1 → v ≡ 0
    none v h = omega arith

    third : (f s x y z n m : ℕ) → z ≡ 0 → f + (0 + n * (0 + m * s)) + z * (n * m) + y * n + x ≡ f + (x + n * (y + m * s))
    third f s x y z n m h = rw h (omega arith)
side_number l (suc (suc (suc a))) high x y z u w = absurd (omega arith)

pub side_sizes : (l : Layout) (axis : ℕ) → IsLayout l.dims l.cells → (1 ≤ slice_index (side_faces l axis) 0) × (1 ≤ slice_index (side_faces l axis) 1) × (slice_index (side_faces l axis) 0 ≤ 65) × (slice_index (side_faces l axis) 1 ≤ 65) × (slice_index (side_faces l axis) 2 ≤ 65)
side_sizes l zero s = (omega arith, s.cells2.least, omega arith, omega (arith, cells_at_most l 1 s (omega arith)), omega (arith, cells_at_most l 2 s (omega arith)))
side_sizes l (suc zero) s = (s.cells1.least, omega arith, omega (arith, cells_at_most l 0 s (omega arith)), omega arith, omega (arith, cells_at_most l 2 s (omega arith)))
side_sizes l (suc (suc a)) s = (s.cells1.least, s.cells2.least, omega (arith, cells_at_most l 0 s (omega arith)), omega (arith, cells_at_most l 1 s (omega arith)), omega arith)

-- each row of them lies in the list
pub rows_fit : (l : Layout) (axis : ℕ) (high : Bool) (n : ℕ) → IsLayout l.dims l.cells → axis < l.dims → n ≡ face_count l → (y z : ℕ) → y < slice_index (side_faces l axis) 1 → z < slice_index (side_faces l axis) 2
    → face_number l axis (face_at_side l axis high (0 ∷ 0 ∷ 0 ∷ [])) + z * (slice_index (face_extents l axis) 0 * slice_index (face_extents l axis) 1) + y * slice_index (face_extents l axis) 0 + slice_index (side_faces l axis) 0 ≤ n
rows_fit l axis high n s u e y z hy hz =
    let three : axis < 3 = omega (arith, s.most) in
    let x = slice_index (side_faces l axis) 0 - 1 in
    let some = (side_sizes l axis s).0 in
    let w : IsWithin (side_faces l axis) (x ∷ y ∷ z ∷ []) = record { along1 = omega arith; along2 = hy; along3 = hz } in
    last_fits _ x (slice_index (side_faces l axis) 0) (face_number l axis (face_at_side l axis high (x ∷ y ∷ z ∷ []))) n (side_number l axis high x y z three w)
    (subst (λ (v : ℕ). face_number l axis (face_at_side l axis high (x ∷ y ∷ z ∷ [])) < v) (sym e) (number_within l axis (face_at_side l axis high (x ∷ y ∷ z ∷ [])) s u (side_within l axis high (x ∷ y ∷ z ∷ []) three w))) (omega arith)
  where
    last_fits : (a x e0 k n : ℕ) → a + x ≡ k → k < n → e0 ≡ x + 1 → a + e0 ≤ n
    last_fits a x e0 k n p h q = omega arith

-- their sum, row by row
pub sum_is : (l : Layout) (axis : ℕ) (high : Bool) (list : List ℕ) (start step plane : ℕ) (extents : List ℕ) → axis < 3
    → start ≡ face_number l axis (face_at_side l axis high (0 ∷ 0 ∷ 0 ∷ [])) → step ≡ slice_index (face_extents l axis) 0 → plane ≡ slice_index (face_extents l axis) 0 * slice_index (face_extents l axis) 1 → extents ≡ side_faces l axis
    → sum_below (slice_index extents 2) (λ z. sum_below (slice_index extents 1) (λ y. sum_below (slice_index extents 0) (λ x. slice_index list (start + z * plane + y * step + x)))) ≡ passed_at l axis high list
sum_is l axis high list start step plane extents u p q r e =
    rw (p, q, r, e)
    (sum_same (slice_index (side_faces l axis) 2) _ _ (λ z hz. sum_same (slice_index (side_faces l axis) 1) _ _ (λ y hy. sum_same (slice_index (side_faces l axis) 0) _ _
    (λ x hx. ap (slice_index list) (side_number l axis high x y z u (record { along1 = hx; along2 = hy; along3 = hz }))))))
