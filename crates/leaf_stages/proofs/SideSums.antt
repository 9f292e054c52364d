-- What passes the faces at a side of a block.
use Rattle.std.proofs.Common.{◌≡◌, ℕ, zero, suc, ◌*◌, ◌^◌, ◌<◌, ◌≤◌, Bool, Option, None, List, [], ◌∷◌, slice_index, arith, ap, sym, ◌∙◌}
use Rattle.std.proofs.Math.Nat.{mul-le-mul_left}
use Rattle.morton_order.specs.declared.space.Loc.{Loc}
use Rattle.mesh_rules.specs.Stage.{when_outside}
use Rattle.block_layout.specs.declared.layout.Layout.{Layout}
use Rattle.block_layout.specs.Sizes.{IsLayout}
use Rattle.block_layout.proofs.Sizes.{cells_at_most}
use Rattle.block_layout.specs.Faces.{face_number}
use Rattle.flow_laws.specs.Flows.{passed_side}
use Rattle.transport_kernel.specs.Passed.{face_at_side, passed_at, side_faces, sum_below}
use Rattle.transport_kernel.specs.Update.{listed}
use Rattle.correction_laws.proofs.Passed.{passed_are_sides}

below_most : (n : ℕ) (f : ℕ → ℕ) (m : ℕ) → ((k : ℕ) → f k ≤ m) → sum_below n f ≤ n * m
below_most zero f m h = omega arith
below_most (suc n) f m h = omega (arith, below_most n f m h, h n)

box_most : (a b c : ℕ) (f : ℕ → ℕ → ℕ → ℕ) (m : ℕ) → ((x y z : ℕ) → f x y z ≤ m) → sum_below c (λ z. sum_below b (λ y. sum_below a (λ x. f x y z))) ≤ c * (b * (a * m))
box_most a b c f m h = below_most c (λ z. sum_below b (λ y. sum_below a (λ x. f x y z))) (b * (a * m)) (λ z. below_most b (λ y. sum_below a (λ x. f x y z)) (a * m) (λ y. below_most a (λ x. f x y z) m (λ x. h x y z)))

cube_most : (a b c m : ℕ) → a ≤ 64 → b ≤ 64 → c ≤ 64 → c * (b * (a * m)) ≤ 64 * (64 * (64 * m))
cube_most a b c m h k l =
    let p : a * m ≤ 64 * m = times a 64 m h in
    let q : b * (a * m) ≤ 64 * (64 * m) = more b 64 (a * m) (64 * m) k p in
    more c 64 (b * (a * m)) (64 * (64 * m)) l q
  where
    times : (x y m : ℕ) → x ≤ y → x * m ≤ y * m
    times x y m h = grind arith

    more : (x y s t : ℕ) → x ≤ y → s ≤ t → x * s ≤ y * t
    more x y s t h k = omega (arith, times x y s h, mul-le-mul_left y k)

side_extents : (l : Layout) (axis c : ℕ) → IsLayout l.dims l.cells → axis < 3 → c < 3 → slice_index (side_faces l axis) c ≤ 64
side_extents l axis c s h k = by axis c h k (cells_at_most l 0 s (omega arith)) (cells_at_most l 1 s (omega arith)) (cells_at_most l 2 s (omega arith))
  where
    by : (a b : ℕ) → a < 3 → b < 3 → slice_index l.cells 0 ≤ 64 → slice_index l.cells 1 ≤ 64 → slice_index l.cells 2 ≤ 64 → slice_index (side_faces l a) b ≤ 64
    by zero zero h k x y z = omega arith
    by zero (suc zero) h k x y z = omega arith
    by zero (suc (suc zero)) h k x y z = omega arith
    by (suc zero) zero h k x y z = omega arith
    by (suc zero) (suc zero) h k x y z = omega arith
    by (suc zero) (suc (suc zero)) h k x y z = omega arith
    by (suc (suc zero)) zero h k x y z = omega arith
    by (suc (suc zero)) (suc zero) h k x y z = omega arith
    by (suc (suc zero)) (suc (suc zero)) h k x y z = omega arith
    by (suc (suc (suc a))) b h k x y z = absurd (omega arith)
    by zero (suc (suc (suc b))) h k x y z = absurd (omega arith)
    by (suc zero) (suc (suc (suc b))) h k x y z = absurd (omega arith)
    by (suc (suc zero)) (suc (suc (suc b))) h k x y z = absurd (omega arith)

pub passed_most : (l : Layout) (axis : ℕ) (high : Bool) (list : List ℕ) → IsLayout l.dims l.cells → axis < l.dims → ((k : ℕ) → slice_index list k < 2 ^ 64) → passed_at l axis high list ≤ 2 ^ 84
passed_most l axis high list s used small =
    let h : axis < 3 = omega (arith, used, s.most) in
    let n : List ℕ = side_faces l axis in
    let a = box_most (slice_index n 0) (slice_index n 1) (slice_index n 2) (λ x y z. listed l list axis (face_at_side l axis high (x ∷ y ∷ z ∷ []))) (2 ^ 64)
    (λ x y z. less (listed l list axis (face_at_side l axis high (x ∷ y ∷ z ∷ []))) (small (face_number l axis (face_at_side l axis high (x ∷ y ∷ z ∷ []))))) in
    let b = cube_most (slice_index n 0) (slice_index n 1) (slice_index n 2) (2 ^ 64) (side_extents l axis 0 s h (omega arith)) (side_extents l axis 1 s h (omega arith)) (side_extents l axis 2 s h (omega arith)) in
    joined (passed_at l axis high list) (slice_index n 2 * (slice_index n 1 * (slice_index n 0 * 2 ^ 64))) a b
  where
    less : (v : ℕ) → v < 2 ^ 64 → v ≤ 2 ^ 64
    less v h = omega arith

    joined : (v w : ℕ) → v ≤ w → w ≤ 64 * (64 * (64 * 2 ^ 64)) → v ≤ 2 ^ 84
    joined v w h k = omega arith

pub passed_is : (l : Layout) (axis : ℕ) (high : Bool) (list : List ℕ) → IsLayout l.dims l.cells → axis < l.dims → (v : ℕ) → v ≡ passed_at l axis high list → v ≡ passed_side l list axis high
passed_is l axis high list s used v e = e ∙ passed_are_sides l axis high list s used

-- a face of the domain counts
pub outside_counts : (o : Option Loc) (x y : ℕ) → o ≡ None → x ≡ y → x ≡ when_outside o y
outside_counts o x y e f = f ∙ sym (ap (λ (v : Option Loc). when_outside v y) e)
