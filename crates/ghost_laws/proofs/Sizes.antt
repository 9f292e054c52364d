-- Coordinates of finer and coarser cells along one axis.
use Rattle.std.proofs.Common.{◌≡◌, ℕ, zero, suc, ◌+◌, ◌*◌, ◌/◌, ◌%◌, ◌<◌, ◌≤◌, Bool, true, false, cond, nat_lt, refl, arith, ap, subst, sym, ◌∙◌}
use Rattle.std.proofs.Math.Nat.{div-add-mod'}
use Rattle.std.proofs.lemmas.Bool.Decides.{nat_tests}
use Rattle.block_layout.specs.Sizes.{IsCellCount}

-- how many parts there are along an axis
abbrev pub cut : Bool → ℕ
cut used = cond used 2 1

-- the cells along an axis, by whether it is in use
pub record Sized (used : Bool) (n : ℕ) : Type 0 where
  pub wide : used ≡ true → 4 ≤ n
  pub even : used ≡ true → n % 2 ≡ 0
  pub single : used ≡ false → n ≡ 1

test_less : (a b : ℕ) → nat_lt a b ≡ true → a < b
test_less a b h = grind (arith, nat_tests)

pub sized : (dims axis n : ℕ) → IsCellCount dims axis n → Sized (nat_lt axis dims) n
sized dims axis n c = record {
  wide = λ h. c.wide (test_less axis dims h);
  even = λ h. c.even (test_less axis dims h);
  single = λ h. let few : n ≤ cond false 64 1 = subst (λ (b : Bool). n ≤ cond b 64 1) h c.most in let some = c.least in omega arith;
}

-- a finer cell in a part of a block
fine_twice : (o m J t c n q : ℕ) → n ≡ 2 * m → J * m + t ≡ q → 2 * (o * n + q) + c ≡ (2 * o + J) * n + (2 * t + c)
fine_twice o m J t c n q e f = rw e (rw (sym f) (omega arith))

fine_once : (o q J c : ℕ) → q / (1 / 1) ≡ J → 1 * (o * 1 + q) + c ≡ (1 * o + J) * 1 + (1 * (q % (1 / 1)) + c)
fine_once o q J c e = omega arith

pub fine_at : (used : Bool) (n o q J c : ℕ) → Sized used n → q / (n / cut used) ≡ J → cut used * (o * n + q) + c ≡ (cut used * o + J) * n + (cut used * (q % (n / cut used)) + c)
fine_at true n o q J c s e =
    let half : ℕ = n / 2 in
    let even = s.even refl in
    let whole : n ≡ 2 * half = omega arith in
    let split : J * half + q % half ≡ q = ap (λ v. v * half + q % half) (sym e) ∙ div-add-mod' q half in
    fine_twice o half J (q % half) c n q whole split
fine_at false n o q J c s e =
    let one : n ≡ 1 = s.single refl in
    subst (λ v. 1 * (o * v + q) + c ≡ (1 * o + J) * v + (1 * (q % (v / 1)) + c)) (sym one) (fine_once o q J c (subst (λ v. q / (v / 1) ≡ J) one e))

pub fine_below : (used : Bool) (n q c : ℕ) → Sized used n → c < cut used → cut used * (q % (n / cut used)) + c < n
fine_below true n q c s h = let wide = s.wide refl in let even = s.even refl in let some : 1 ≤ n / 2 = omega arith in let low : q % (n / 2) < n / 2 = below q (n / 2) some in omega arith
  where
    below : (x k : ℕ) → 1 ≤ k → x % k < k
    below x k h = omega arith
fine_below false n q c s h = let one = s.single refl in let zero : q % (n / 1) ≡ 0 = subst (λ v. q % (v / 1) ≡ 0) (sym one) (omega arith) in omega arith

-- the coarser cell of a cell
halved : (z q : ℕ) → (2 * z + q) / 2 ≡ z + q / 2
halved z q = omega arith

coarse_twice : (o m q : ℕ) → (o * (2 * m) + q) / 2 ≡ o / 2 * (2 * m) + (o % 2 * m + q / 2)
coarse_twice o m q =
    let split : o ≡ o / 2 * 2 + o % 2 = omega arith in
    let z : o * m ≡ (o / 2 * 2 + o % 2) * m = ap (λ v. v * m) split in
    let g : o * m ≡ o / 2 * (2 * m) + o % 2 * m = z ∙ spread (o / 2) (o % 2) m in
    let f : o * (2 * m) + q ≡ 2 * (o * m) + q = omega arith in
    ap (λ v. v / 2) f ∙ halved (o * m) q ∙ ap (λ v. v + q / 2) g ∙ last (o / 2 * (2 * m)) (o % 2 * m) (q / 2)
  where
    spread : (x y m : ℕ) → (x * 2 + y) * m ≡ x * (2 * m) + y * m
    spread x y m = omega arith

    last : (a b c : ℕ) → a + b + c ≡ a + (b + c)
    last a b c = omega arith

pub coarse_at : (used : Bool) (n o q : ℕ) → Sized used n → (o * n + q) / cut used ≡ o / cut used * n + (o % cut used * (n / cut used) + q / cut used)
coarse_at true n o q s =
    let even = s.even refl in
    let whole : n ≡ 2 * (n / 2) = omega arith in
    subst (λ v. (o * v + q) / 2 ≡ o / 2 * v + (o % 2 * (n / 2) + q / 2)) (sym whole) (coarse_twice o (n / 2) q)
coarse_at false n o q s = let one = s.single refl in subst (λ v. (o * v + q) / 1 ≡ o / 1 * v + (o % 1 * (v / 1) + q / 1)) (sym one) (omega arith)

pub digit_at : (used : Bool) (n o q : ℕ) → Sized used n → (o * n + q) % cut used ≡ q % cut used
digit_at true n o q s =
    let even = s.even refl in
    let whole : n ≡ 2 * (n / 2) = omega arith in
    subst (λ v. (o * v + q) % 2 ≡ q % 2) (sym whole) (by (n / 2))
  where
    even_part : (z : ℕ) → (2 * z + q) % 2 ≡ q % 2
    even_part z = omega arith

    by : (k : ℕ) → (o * (2 * k) + q) % 2 ≡ q % 2
    by k = let f : o * (2 * k) + q ≡ 2 * (o * k) + q = omega arith in ap (λ v. v % 2) f ∙ even_part (o * k)
digit_at false n o q s = omega arith

pub coarse_below : (used : Bool) (n q h : ℕ) → Sized used n → h < cut used → q < n → h * (n / cut used) + q / cut used < n
coarse_below true n q zero s k l = omega arith
coarse_below true n q (suc zero) s k l = let even = s.even refl in omega arith
coarse_below true n q (suc (suc h)) s k l = absurd (omega arith)
coarse_below false n q h s k l = let one = s.single refl in let none : h ≡ 0 = omega arith in rw none (omega arith)
