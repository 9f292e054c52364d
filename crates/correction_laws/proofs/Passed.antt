-- The two ways to add up what passes a side are one.
use Rattle.std.proofs.Common.{◌≡◌, ℕ, zero, suc, ◌+◌, ◌<◌, ◌≤◌, Bool, true, false, cond, List, [], ◌∷◌, refl, arith, ap, sym, ◌∙◌, slice_index}
use Rattle.mesh_rules.specs.Sums.{sum_to}
use Rattle.mesh_laws.proofs.Totals.{sum_to-same}
use Rattle.block_layout.specs.Sizes.{IsCellCount}
use Rattle.block_layout.specs.Indices.{with_along}
use Rattle.block_layout.specs.Layouts.{cells_along}
use Rattle.block_layout.specs.Faces.{face_number}
use Rattle.block_geometry.specs.Blocks.{end_of}
use Rattle.block_geometry.proofs.Rows.{along_with}
use Rattle.ghost_laws.proofs.Layers.{count_at, with_twice}
use Rattle.flow_laws.specs.Flows.{sum_box}
use Rattle.transport_kernel.specs.Passed.{side_faces, sum_below}
use Rattle.transport_kernel.specs.Passed as kernel
use Rattle.correction_laws.specs.Passed.{PassedAreSides}

below_is_to : (n : ℕ) (each : ℕ → ℕ) → sum_below n each ≡ sum_to n each
below_is_to zero each = refl
below_is_to (suc n) each = ap (λ t. t + each n) (below_is_to n each)

boxes_are_one : (n : List ℕ) (f g : List ℕ → ℕ) → ((i : List ℕ) → f i ≡ g i) → kernel.sum_box n f ≡ sum_box n g
boxes_are_one n f g same =
    below_is_to (slice_index n 2) (λ z. sum_below (slice_index n 1) (λ y. sum_below (slice_index n 0) (λ x. f (x ∷ y ∷ z ∷ []))))
    ∙ sum_to-same (slice_index n 2) (λ z. sum_below (slice_index n 1) (λ y. sum_below (slice_index n 0) (λ x. f (x ∷ y ∷ z ∷ [])))) (λ z. sum_to (slice_index n 1) (λ y. sum_to (slice_index n 0) (λ x. g (x ∷ y ∷ z ∷ []))))
    (λ z c.
    below_is_to (slice_index n 1) (λ y. sum_below (slice_index n 0) (λ x. f (x ∷ y ∷ z ∷ [])))
    ∙ sum_to-same (slice_index n 1) (λ y. sum_below (slice_index n 0) (λ x. f (x ∷ y ∷ z ∷ []))) (λ y. sum_to (slice_index n 0) (λ x. g (x ∷ y ∷ z ∷ [])))
    (λ y b.
    below_is_to (slice_index n 0) (λ x. f (x ∷ y ∷ z ∷ []))
    ∙ sum_to-same (slice_index n 0) (λ x. f (x ∷ y ∷ z ∷ [])) (λ x. g (x ∷ y ∷ z ∷ [])) (λ x a. same (x ∷ y ∷ z ∷ []))))

past_end : (n : ℕ) (high : Bool) → 1 ≤ n → cond high n 0 ≡ end_of n high + cond high 1 0
past_end n true h = omega arith
past_end n false h = omega arith

side_face : (axis n : ℕ) (high : Bool) (i : List ℕ) → axis < 3 → 1 ≤ n →
    with_along axis (cond high n 0) i ≡ with_along axis (slice_index (with_along axis (end_of n high) i) axis + cond high 1 0) (with_along axis (end_of n high) i)
side_face axis n high i h some =
    ap (λ x. with_along axis x i) (past_end n high some ∙ ap (λ x. x + cond high 1 0) (sym (along_with axis (end_of n high) i h)))
    ∙ sym (with_twice axis (slice_index (with_along axis (end_of n high) i) axis + cond high 1 0) (end_of n high) i h)

pub passed_are_sides : PassedAreSides
passed_are_sides l axis high list fit used =
    let h : axis < 3 = omega (arith, used, fit.most) in
    let c : IsCellCount l.dims axis (cells_along l axis) = count_at l.dims axis l.cells fit h in
    boxes_are_one (side_faces l axis) _ _ (λ i. ap (λ v. slice_index list (face_number l axis v)) (side_face axis (cells_along l axis) high i h c.least))
