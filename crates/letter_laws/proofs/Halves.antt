-- Halves of rows, and the parts of a side.
use Rattle.std.proofs.Common.{◌≡◌, ℕ, zero, suc, ◌+◌, ◌-◌, ◌*◌, ◌/◌, ◌%◌, ◌<◌, ◌≤◌, Bool, true, false, cond, not, refl, arith, ap, subst, sym, ◌∙◌}
use Rattle.morton_order.specs.declared.space.Loc.{Loc}
use Rattle.morton_order.specs.Space.{axis_of, child_number, factor}
use Rattle.block_layout.specs.Regions.{half_along}
use Rattle.ghost_laws.specs.Layers.{layer_along}
use Rattle.ghost_laws.proofs.Sizes.{Sized, cut}
use Rattle.letter_laws.specs.Sides.{side_part}

-- the part of a side that a location covers has its halves along the other axes
pub half_is : (d axis k : ℕ) (l : Loc) → 1 ≤ d → d ≤ 3 → axis < d → k < 3 → ¬ (k ≡ axis) → half_along d axis (side_part axis (child_number d l)) k ≡ axis_of l k % factor d k
half_is zero axis k l least most used g off = absurd (omega arith)
half_is (suc zero) zero zero l least most used g off = absurd (off refl)
half_is (suc zero) zero (suc zero) l least most used g off = omega arith
half_is (suc zero) zero (suc (suc zero)) l least most used g off = omega arith
half_is (suc zero) (suc axis) k l least most used g off = absurd (omega arith)
half_is (suc (suc zero)) zero zero l least most used g off = absurd (off refl)
half_is (suc (suc zero)) zero (suc zero) l least most used g off = omega arith
half_is (suc (suc zero)) zero (suc (suc zero)) l least most used g off = omega arith
half_is (suc (suc zero)) (suc zero) zero l least most used g off = omega arith
half_is (suc (suc zero)) (suc zero) (suc zero) l least most used g off = absurd (off refl)
half_is (suc (suc zero)) (suc zero) (suc (suc zero)) l least most used g off = omega arith
half_is (suc (suc zero)) (suc (suc axis)) k l least most used g off = absurd (omega arith)
half_is (suc (suc (suc zero))) zero zero l least most used g off = absurd (off refl)
half_is (suc (suc (suc zero))) zero (suc zero) l least most used g off = omega arith
half_is (suc (suc (suc zero))) zero (suc (suc zero)) l least most used g off = omega arith
half_is (suc (suc (suc zero))) (suc zero) zero l least most used g off = omega arith
half_is (suc (suc (suc zero))) (suc zero) (suc zero) l least most used g off = absurd (off refl)
half_is (suc (suc (suc zero))) (suc zero) (suc (suc zero)) l least most used g off = omega arith
half_is (suc (suc (suc zero))) (suc (suc zero)) zero l least most used g off = omega arith
half_is (suc (suc (suc zero))) (suc (suc zero)) (suc zero) l least most used g off = omega arith
half_is (suc (suc (suc zero))) (suc (suc zero)) (suc (suc zero)) l least most used g off = absurd (off refl)
half_is (suc (suc (suc zero))) (suc (suc (suc axis))) k l least most used g off = absurd (omega arith)
half_is (suc (suc (suc (suc d)))) axis k l least most used g off = absurd (omega arith)
half_is d axis (suc (suc (suc k))) l least most used g off = absurd (omega arith)

-- a part of a row, by which half it is
digit : (used : Bool) (x : ℕ) → x % cut used < cut used
digit true x = omega arith
digit false x = omega arith

pub part_below : (used : Bool) (n x i : ℕ) → Sized used n → i < n / cut used → x % cut used * (n / 2) + i < n
part_below used n x i s h = by used (x % cut used) s (digit used x) h
  where
    by : (u : Bool) (j : ℕ) → Sized u n → j < cut u → i < n / cut u → j * (n / 2) + i < n
    by true zero s l h = omega arith
    by true (suc zero) s l h = let even = s.even refl in omega arith
    by true (suc (suc j)) s l h = absurd (omega arith)
    by false j s l h = let one = s.single refl in let none : j ≡ 0 = omega arith in rw none (omega arith)

-- where it begins in the mesh
twice : (x h i n : ℕ) → n ≡ 2 * h → x * h + i ≡ x / 2 * n + (x % 2 * h + i)
twice x h i n e =
    let split : x ≡ x / 2 * 2 + x % 2 = omega arith in
    let z : x * h ≡ (x / 2 * 2 + x % 2) * h = ap (λ v. v * h) split in
    let w : x / 2 * n ≡ x / 2 * (2 * h) = ap (λ v. x / 2 * v) e in
    z' (x / 2) (x % 2) z w
  where
    z' : (a c : ℕ) → x * h ≡ (a * 2 + c) * h → a * n ≡ a * (2 * h) → x * h + i ≡ a * n + (c * h + i)
    z' a c z w = omega arith

pub part_first : (used : Bool) (n x i : ℕ) → Sized used n → x * (n / cut used) + i ≡ x / cut used * n + (x % cut used * (n / 2) + i)
part_first true n x i s = let even = s.even refl in twice x (n / 2) i n (omega arith)
part_first false n x i s = let one = s.single refl in subst (λ v. x * (v / 1) + i ≡ x / 1 * v + (x % 1 * (v / 2) + i)) (sym one) (omega arith)

-- the coarser cell of a cell
pub half_down : (used : Bool) (n x i : ℕ) → Sized used n → x * (n / cut used) + i / cut used ≡ (x * n + i) / cut used
half_down true n x i s =
    let even = s.even refl in
    let e : n ≡ 2 * (n / 2) = omega arith in
    let w : x * n ≡ x * (2 * (n / 2)) = ap (λ v. x * v) e in
    let f : x * n + i ≡ 2 * (x * (n / 2)) + i = omega arith in
    by (x * (n / 2)) ∙ sym (ap (λ v. v / 2) f)
  where
    by : (z : ℕ) → z + i / 2 ≡ (2 * z + i) / 2
    by z = omega arith
half_down false n x i s = let one = s.single refl in subst (λ v. x * (v / 1) + i / 1 ≡ (x * v + i) / 1) (sym one) (omega arith)

-- in the layers next to the side
pub end_down : (C A N layer : ℕ) (high : Bool) → layer < 2 → 4 ≤ N → N % 2 ≡ 0 → A ≡ 2 * C + cond high 0 1 →
    cond (not high) (C * N + N - 1) (C * N) + cond high layer (1 - layer) / 2 ≡ (A * N + layer_along N high layer) / 2
end_down C A N layer true few four even e =
    let f : A * N ≡ (2 * C + 0) * N = ap (λ v. v * N) e in
    let g : A * N + layer ≡ 2 * (C * N) + layer = omega arith in
    by (C * N) ∙ sym (ap (λ v. v / 2) g)
  where
    by : (z : ℕ) → z + layer / 2 ≡ (2 * z + layer) / 2
    by z = omega arith
end_down C A N layer false few four even e =
    let f : A * N ≡ (2 * C + 1) * N = ap (λ v. v * N) e in
    let g : A * N + (N - 1 - layer) ≡ 2 * (C * N) + (N + (N - 1 - layer)) = omega arith in
    by (C * N) ∙ sym (ap (λ v. v / 2) g)
  where
    by : (z : ℕ) → z + N - 1 + (1 - layer) / 2 ≡ (2 * z + (N + (N - 1 - layer))) / 2
    by z = omega arith

pub end_digit : (N layer : ℕ) (high : Bool) → layer < 2 → 4 ≤ N → N % 2 ≡ 0 → cond high layer (1 - layer) % 2 ≡ layer_along N high layer % 2
end_digit N layer true few four even = refl
end_digit N layer false few four even = omega arith

-- numbers of parts, by the halves along each axis
pub number_digits : (d u v w : ℕ) → 1 ≤ d → d ≤ 3 → u % factor d 0 + factor d 0 * (v % factor d 1 + factor d 1 * (w % factor d 2)) ≡ u % factor d 0 + 2 * (v % factor d 1) + 4 * (w % factor d 2)
number_digits zero u v w least most = absurd (omega arith)
number_digits (suc zero) u v w least most = omega arith
number_digits (suc (suc zero)) u v w least most = omega arith
number_digits (suc (suc (suc zero))) u v w least most = omega arith
number_digits (suc (suc (suc (suc d)))) u v w least most = absurd (omega arith)

-- half of what lies in a row
pub half_within : (used : Bool) (n i : ℕ) → Sized used n → i < n → i / cut used < n / cut used
half_within true n i s h = let even = s.even refl in omega arith
half_within false n i s h = omega arith

pub half_layer : (layer : ℕ) (high : Bool) → layer < 2 → cond high layer (1 - layer) / 2 < 1
half_layer layer true h = omega arith
half_layer layer false h = omega arith
