-- Numbers of the parts of a side, of children and of the faces in a part.
use Rattle.std.proofs.Common.{◌≡◌, ◌≢◌, ◌==◌, ℕ, zero, suc, ◌+◌, ◌*◌, ◌/◌, ◌%◌, ◌<◌, ◌≤◌, Bool, true, false, cond, not, refl, arith, ap, subst, sym, ◌∙◌, slice_index}
use Rattle.std.proofs.Math.Nat.{div-add-mod', div-eq_of_lt-le}
use Rattle.std.proofs.lemmas.Bool.Decides.{nat_tests}
use Rattle.morton_order.specs.Space.{factor}
use Rattle.block_tree.specs.Behind.{children_at, is_high_half}
use Rattle.mesh_rules.specs.Sums.{sum_over, sum_to}
use Rattle.block_layout.specs.Indices.{count_of}
use Rattle.block_layout.specs.Regions.{half_along}
use Rattle.block_geometry.specs.Blocks.{end_of}
use Rattle.ghost_laws.specs.Layers.{layer_along}
use Rattle.ghost_laws.specs.Refined.{halves_of}
use Rattle.ghost_laws.proofs.Meeting.{two_parts}
use Rattle.ghost_laws.proofs.Sizes.{Sized, cut}
use Rattle.restrict_prolong.proofs.Halves.{factor_least, factor_most}
use Rattle.restrict_prolong.proofs.SumSteps.{by_factor}
use Rattle.flux_correct.specs.Sums.{face_factors}
use Rattle.correction_laws.specs.Replaced.{half_of}

-- the half along another axis of the part that a child covers is the child's
pub half_digit : (dims axis c j : ℕ) → axis < 3 → c < 3 → c ≢ axis → half_along dims axis (half_of axis j) c ≡ slice_index (halves_of dims j) c
half_digit dims zero zero j h k ne = absurd (ne refl)
half_digit dims zero (suc zero) j h k ne = let e : j / 2 / 1 ≡ j / 2 = omega arith in ap (λ v. v % factor dims 1) e
half_digit dims zero (suc (suc zero)) j h k ne = let e : j / 2 / 2 ≡ j / 4 = omega arith in ap (λ v. v % factor dims 2) e
half_digit dims (suc zero) zero j h k ne = by_factor (λ f. (j % 2 + 2 * (j / 4)) / 1 % f ≡ j % f) (factor dims 0) (factor_least dims 0) (factor_most dims 0) (omega arith) (omega arith)
half_digit dims (suc zero) (suc zero) j h k ne = absurd (ne refl)
half_digit dims (suc zero) (suc (suc zero)) j h k ne = let e : (j % 2 + 2 * (j / 4)) / 2 ≡ j / 4 = omega arith in ap (λ v. v % factor dims 2) e
half_digit dims (suc (suc zero)) zero j h k ne = by_factor (λ f. j % 4 / 1 % f ≡ j % f) (factor dims 0) (factor_least dims 0) (factor_most dims 0) (omega arith) (omega arith)
half_digit dims (suc (suc zero)) (suc zero) j h k ne = by_factor (λ f. j % 4 / 2 % f ≡ j / 2 % f) (factor dims 1) (factor_least dims 1) (factor_most dims 1) (omega arith) (omega arith)
half_digit dims (suc (suc zero)) (suc (suc zero)) j h k ne = absurd (ne refl)
half_digit dims (suc (suc (suc a))) c j h k ne = absurd (omega arith)
half_digit dims zero (suc (suc (suc c))) j h k ne = absurd (omega arith)
half_digit dims (suc zero) (suc (suc (suc c))) j h k ne = absurd (omega arith)
half_digit dims (suc (suc zero)) (suc (suc (suc c))) j h k ne = absurd (omega arith)

-- a number along an axis from its half and what it has in it
pub back_together : (used : Bool) (n x d e : ℕ) → Sized used n → x < n → x / (n / cut used) ≡ d → e ≡ d → 0 + e * (n / 2) + x % (n / cut used) ≡ x
back_together true n x d e s h f g = ap (λ v. 0 + v * (n / 2) + x % (n / 2)) (g ∙ sym f) ∙ plain (x / (n / 2) * (n / 2)) (x % (n / 2)) x (div-add-mod' x (n / 2))
  where
    plain : (a b c : ℕ) → a + b ≡ c → 0 + a + b ≡ c
    plain a b c h = omega arith
back_together false n x d e s h f g =
    let one : n ≡ 1 = s.single refl in
    let none : x ≡ 0 = omega arith in
    subst (λ v. 0 + e * (v / 2) + x % (v / 1) ≡ x) (sym one) (subst (λ v. 0 + e * 0 + v % 1 ≡ v) (sym none) (omega arith))

-- and the half of such a number
pub half_again : (used : Bool) (n x u e : ℕ) → Sized used n → e < cut used → u < n / cut used → x ≡ 0 + e * (n / 2) + u → x / (n / cut used) ≡ e
half_again true n x u e s h k f = div-eq_of_lt-le (n / 2) (omega arith) (omega arith)
half_again false n x u e s h k f =
    let one : n ≡ 1 = s.single refl in
    let less : u < 1 = subst (λ v. u < v / 1) one k in
    let none : x ≡ 0 = f ∙ subst (λ v. 0 + e * (v / 2) + u ≡ 0) (sym one) (omega arith) in
    let first : e ≡ 0 = omega arith in
    subst (λ v. x / (v / 1) ≡ e) (sym one) (omega arith)

-- such a number is below that of the cells
pub placed_below : (used : Bool) (n u e : ℕ) → Sized used n → e < cut used → u < n / cut used → 0 + e * (n / 2) + u < n
placed_below true n u e s h k = let even = s.even refl in let most : e * (n / 2) ≤ 1 * (n / 2) = lower e (n / 2) h in omega arith
  where
    lower : (e m : ℕ) → e < 2 → e * m ≤ 1 * m
    lower zero m h = omega arith
    lower (suc zero) m h = omega arith
    lower (suc (suc e)) m h = absurd (omega arith)
placed_below false n u e s h k =
    let one : n ≡ 1 = s.single refl in
    let less : u < 1 = subst (λ v. u < v / 1) one k in
    subst (λ v. 0 + e * (v / 2) + u < v) (sym one) (omega arith)

-- the rest in a half
pub rest_below : (used : Bool) (n x : ℕ) → Sized used n → x % (n / cut used) < n / cut used
rest_below true n x s = let wide = s.wide refl in below x (n / 2) (omega arith)
  where
    below : (x k : ℕ) → 1 ≤ k → x % k < k
    below x k h = omega arith
rest_below false n x s = let one : n ≡ 1 = s.single refl in subst (λ v. x % (v / 1) < v / 1) (sym one) (omega arith)

-- the last face towards a side
pub last_face : (n x : ℕ) (high : Bool) → 1 ≤ n → x ≡ end_of n high → cond high n 0 + 0 + 0 ≡ x + cond high 1 0
last_face n x true h e = omega arith
last_face n x false h e = omega arith

pub at_last_face : (n x u : ℕ) (side high : Bool) → x < n → u < 1 → x + cond side 1 0 ≡ cond high n 0 + 0 + u → (side ≡ high) × (x ≡ end_of n high)
at_last_face n x u true true h k e = (refl, omega arith)
at_last_face n x u true false h k e = absurd (omega arith)
at_last_face n x u false true h k e = absurd (omega arith)
at_last_face n x u false false h k e = (refl, omega arith)

-- the layer next to a side is in the half towards it
pub first_half : (n x : ℕ) (high : Bool) → 4 ≤ n → n % 2 ≡ 0 → x ≡ layer_along n high 0 → x / (n / 2) ≡ cond (not high) 1 0
first_half n x true h k e = ap (λ v. v / (n / 2)) e ∙ div-eq_of_lt-le (n / 2) (omega arith) (omega arith)
first_half n x false h k e = div-eq_of_lt-le (n / 2) (omega arith) (omega arith)

-- the bit of a child along an axis in use
one_bit : (x : ℕ) (high : Bool) → x < 2 → (x == 1) ≡ high → x ≡ cond high 1 0
one_bit x true h e = grind (arith, nat_tests)
one_bit x false h e = grind (arith, nat_tests)

pub own_bit : (dims j axis : ℕ) (high : Bool) → axis < dims → axis < 3 → is_high_half j axis ≡ high → slice_index (halves_of dims j) axis ≡ cond high 1 0
own_bit dims j zero high used h e = ap (λ v. j % v) (two_parts dims 0 used) ∙ one_bit (j % 2) high (omega arith) e
own_bit dims j (suc zero) high used h e = ap (λ v. j / 2 % v) (two_parts dims 1 used) ∙ one_bit (j / 2 % 2) high (omega arith) e
own_bit dims j (suc (suc zero)) high used h e = ap (λ v. j / 4 % v) (two_parts dims 2 used) ∙ one_bit (j / 4 % 2) high (omega arith) e
own_bit dims j (suc (suc (suc a))) high used h e = absurd (omega arith)

-- a child from its bits
pub from_bits : (a b c : Bool) (j : ℕ) → j < cut a * cut b * cut c → (b ≡ true → a ≡ true) → (c ≡ true → b ≡ true) → j % cut a + 2 * (j / 2 % cut b) + 4 * (j / 4 % cut c) ≡ j
from_bits true true true j h p q = omega arith
from_bits true true false j h p q = omega arith
from_bits true false false j h p q = omega arith
from_bits false false false j h p q = omega arith
from_bits false true c j h p q = absurd (wrong (p refl))
  where
    wrong : ◌≡◌ {A = Bool} false true → ⊥
    wrong e = cc
from_bits a false true j h p q = absurd (wrong (q refl))
  where
    wrong : ◌≡◌ {A = Bool} false true → ⊥
    wrong e = cc

-- the child with a bit along the axis that covers the part k of a side of it
abbrev pub child_by : ℕ → ℕ → ℕ → ℕ
child_by zero bit k = 2 * k + bit
child_by (suc zero) bit k = k % 2 + 2 * bit + 4 * (k / 2)
child_by (suc (suc _)) bit k = k + 4 * bit

abbrev pub child_of : ℕ → Bool → ℕ → ℕ
child_of axis side k = child_by axis (cond side 1 0) k

pub child_stands : (axis k : ℕ) (side : Bool) → k < 4 → is_high_half (child_of axis side k) axis ≡ side
child_stands zero k true h = grind (arith, nat_tests)
child_stands zero k false h = grind (arith, nat_tests)
child_stands (suc zero) k true h = grind (arith, nat_tests)
child_stands (suc zero) k false h = grind (arith, nat_tests)
child_stands (suc (suc a)) k true h = grind (arith, nat_tests)
child_stands (suc (suc a)) k false h = grind (arith, nat_tests)

-- the sum over the children at a side is that over the parts of it
pub halves_sum : (dims axis : ℕ) (side : Bool) (g : ℕ → ℕ) → axis < dims → dims ≤ 3 → sum_over (children_at dims axis side) g ≡ sum_to (count_of (face_factors dims axis)) (λ k. g (child_of axis side k))
halves_sum zero axis side g h k = absurd (omega arith)
halves_sum (suc zero) zero true g h k = omega arith
halves_sum (suc zero) zero false g h k = omega arith
halves_sum (suc zero) (suc a) side g h k = absurd (omega arith)
halves_sum (suc (suc zero)) zero true g h k = omega arith
halves_sum (suc (suc zero)) zero false g h k = omega arith
halves_sum (suc (suc zero)) (suc zero) true g h k = omega arith
halves_sum (suc (suc zero)) (suc zero) false g h k = omega arith
halves_sum (suc (suc zero)) (suc (suc a)) side g h k = absurd (omega arith)
halves_sum (suc (suc (suc zero))) zero true g h k = omega arith
halves_sum (suc (suc (suc zero))) zero false g h k = omega arith
halves_sum (suc (suc (suc zero))) (suc zero) true g h k = omega arith
halves_sum (suc (suc (suc zero))) (suc zero) false g h k = omega arith
halves_sum (suc (suc (suc zero))) (suc (suc zero)) true g h k = omega arith
halves_sum (suc (suc (suc zero))) (suc (suc zero)) false g h k = omega arith
halves_sum (suc (suc (suc zero))) (suc (suc (suc a))) side g h k = absurd (omega arith)
halves_sum (suc (suc (suc (suc d)))) axis side g h k = absurd (omega arith)

pub few_halves : (dims axis k : ℕ) → axis < dims → dims ≤ 3 → k < count_of (face_factors dims axis) → k < 4
few_halves zero axis k h l m = absurd (omega arith)
few_halves (suc zero) zero k h l m = omega arith
few_halves (suc zero) (suc a) k h l m = absurd (omega arith)
few_halves (suc (suc zero)) zero k h l m = omega arith
few_halves (suc (suc zero)) (suc zero) k h l m = omega arith
few_halves (suc (suc zero)) (suc (suc a)) k h l m = absurd (omega arith)
few_halves (suc (suc (suc zero))) zero k h l m = omega arith
few_halves (suc (suc (suc zero))) (suc zero) k h l m = omega arith
few_halves (suc (suc (suc zero))) (suc (suc zero)) k h l m = omega arith
few_halves (suc (suc (suc zero))) (suc (suc (suc a))) k h l m = absurd (omega arith)
few_halves (suc (suc (suc (suc d)))) axis k h l m = absurd (omega arith)

-- the halves of this child along the other axes are the index of the part
pub bits_of_first : (dims k d : ℕ) → 0 < dims → dims ≤ 3 → k < count_of (face_factors dims 0) → d ≤ 1 →
    (k / 1 % factor dims 1 ≡ (2 * k + d) / 2 % factor dims 1) × (k / 1 / factor dims 1 ≡ (2 * k + d) / 4 % factor dims 2)
bits_of_first zero k d h l m e = absurd (omega arith)
bits_of_first (suc zero) k d h l m e = (omega arith, omega arith)
bits_of_first (suc (suc zero)) k d h l m e = (omega arith, omega arith)
bits_of_first (suc (suc (suc zero))) k d h l m e = (omega arith, omega arith)
bits_of_first (suc (suc (suc (suc a)))) k d h l m e = absurd (omega arith)

pub bits_of_second : (dims k d : ℕ) → 1 < dims → dims ≤ 3 → k < count_of (face_factors dims 1) → d ≤ 1 →
    (k % factor dims 0 ≡ (k % 2 + 2 * d + 4 * (k / 2)) % factor dims 0) × (k / factor dims 0 / 1 ≡ (k % 2 + 2 * d + 4 * (k / 2)) / 4 % factor dims 2)
bits_of_second zero k d h l m e = absurd (omega arith)
bits_of_second (suc zero) k d h l m e = absurd (omega arith)
bits_of_second (suc (suc zero)) k d h l m e = (omega arith, omega arith)
bits_of_second (suc (suc (suc zero))) k d h l m e = (omega arith, omega arith)
bits_of_second (suc (suc (suc (suc a)))) k d h l m e = absurd (omega arith)

pub bits_of_third : (dims k d : ℕ) → 2 < dims → dims ≤ 3 → k < count_of (face_factors dims 2) → d ≤ 1 →
    (k % factor dims 0 ≡ (k + 4 * d) % factor dims 0) × (k / factor dims 0 % factor dims 1 ≡ (k + 4 * d) / 2 % factor dims 1)
bits_of_third zero k d h l m e = absurd (omega arith)
bits_of_third (suc zero) k d h l m e = absurd (omega arith)
bits_of_third (suc (suc zero)) k d h l m e = absurd (omega arith)
bits_of_third (suc (suc (suc zero))) k d h l m e = (omega arith, omega arith)
bits_of_third (suc (suc (suc (suc a)))) k d h l m e = absurd (omega arith)
