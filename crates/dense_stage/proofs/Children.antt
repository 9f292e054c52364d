-- The finer leaves behind a side, by the parts of the side that they cover.
use Rattle.std.proofs.Common.{◌≡◌, ℕ, zero, suc, ◌<◌, ◌≤◌, Bool, true, false, map, refl, arith, slice_index}
use Rattle.std.specs.List.{range_with_len}
use Rattle.morton_order.specs.Space.{parts}
use Rattle.block_tree.specs.Behind.{children_at}
use Rattle.block_layout.specs.Indices.{count_of}
use Rattle.ghost_laws.specs.Refined.{halves_of}
use Rattle.flux_correct.specs.Sums.{face_factors}
use Rattle.correction_laws.specs.Replaced.{half_of}
use Rattle.correction_laws.proofs.Digits.{child_by, child_of}

-- the children at a side are those of its parts in order
pub children_are : (dims axis : ℕ) (side : Bool) → axis < dims → dims ≤ 3 → children_at dims axis side ≡ map (child_of axis side) (range_with_len 0 (count_of (face_factors dims axis)))
children_are zero axis side h k = absurd (omega arith)
children_are (suc zero) zero true h k = refl
children_are (suc zero) zero false h k = refl
children_are (suc zero) (suc a) side h k = absurd (omega arith)
children_are (suc (suc zero)) zero true h k = refl
children_are (suc (suc zero)) zero false h k = refl
children_are (suc (suc zero)) (suc zero) true h k = refl
children_are (suc (suc zero)) (suc zero) false h k = refl
children_are (suc (suc zero)) (suc (suc a)) side h k = absurd (omega arith)
children_are (suc (suc (suc zero))) zero true h k = refl
children_are (suc (suc (suc zero))) zero false h k = refl
children_are (suc (suc (suc zero))) (suc zero) true h k = refl
children_are (suc (suc (suc zero))) (suc zero) false h k = refl
children_are (suc (suc (suc zero))) (suc (suc zero)) true h k = refl
children_are (suc (suc (suc zero))) (suc (suc zero)) false h k = refl
children_are (suc (suc (suc zero))) (suc (suc (suc a))) side h k = absurd (omega arith)
children_are (suc (suc (suc (suc d)))) axis side h k = absurd (omega arith)

-- they are children
pub bit_below : (dims axis k bit : ℕ) → axis < dims → dims ≤ 3 → k < count_of (face_factors dims axis) → bit ≤ 1 → child_by axis bit k < parts dims
bit_below zero axis k bit h l m n = absurd (omega arith)
bit_below (suc zero) zero k bit h l m n = omega arith
bit_below (suc zero) (suc a) k bit h l m n = absurd (omega arith)
bit_below (suc (suc zero)) zero k bit h l m n = omega arith
bit_below (suc (suc zero)) (suc zero) k bit h l m n = omega arith
bit_below (suc (suc zero)) (suc (suc a)) k bit h l m n = absurd (omega arith)
bit_below (suc (suc (suc zero))) zero k bit h l m n = omega arith
bit_below (suc (suc (suc zero))) (suc zero) k bit h l m n = omega arith
bit_below (suc (suc (suc zero))) (suc (suc zero)) k bit h l m n = omega arith
bit_below (suc (suc (suc zero))) (suc (suc (suc a))) k bit h l m n = absurd (omega arith)
bit_below (suc (suc (suc (suc d)))) axis k bit h l m n = absurd (omega arith)

pub child_below : (dims axis : ℕ) (side : Bool) (k : ℕ) → axis < dims → dims ≤ 3 → k < count_of (face_factors dims axis) → child_of axis side k < parts dims
child_below dims axis true k h l m = bit_below dims axis k 1 h l m (omega arith)
child_below dims axis false k h l m = bit_below dims axis k 0 h l m (omega arith)

-- a child covers its part
pub half_of_child : (axis k : ℕ) (side : Bool) → k < 4 → half_of axis (child_of axis side k) ≡ k
half_of_child zero k true h = omega arith
half_of_child zero k false h = omega arith
half_of_child (suc zero) k true h = omega arith
half_of_child (suc zero) k false h = omega arith
half_of_child (suc (suc a)) k true h = omega arith
half_of_child (suc (suc a)) k false h = omega arith

-- a child at a side is that of its part
pub child_again : (dims axis j bit : ℕ) → axis < dims → dims ≤ 3 → j < parts dims → slice_index (halves_of dims j) axis ≡ bit → (child_by axis bit (half_of axis j) ≡ j) × (half_of axis j < count_of (face_factors dims axis))
child_again zero axis j bit h l m e = absurd (omega arith)
child_again (suc zero) zero j bit h l m e = (omega arith, omega arith)
child_again (suc zero) (suc a) j bit h l m e = absurd (omega arith)
child_again (suc (suc zero)) zero j bit h l m e = (omega arith, omega arith)
child_again (suc (suc zero)) (suc zero) j bit h l m e = (omega arith, omega arith)
child_again (suc (suc zero)) (suc (suc a)) j bit h l m e = absurd (omega arith)
child_again (suc (suc (suc zero))) zero j bit h l m e = (omega arith, omega arith)
child_again (suc (suc (suc zero))) (suc zero) j bit h l m e = (omega arith, omega arith)
child_again (suc (suc (suc zero))) (suc (suc zero)) j bit h l m e = (omega arith, omega arith)
child_again (suc (suc (suc zero))) (suc (suc (suc a))) j bit h l m e = absurd (omega arith)
child_again (suc (suc (suc (suc d)))) axis j bit h l m e = absurd (omega arith)
