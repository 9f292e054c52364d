-- Sums of shares and of portions.
use Rattle.std.proofs.Common.{◌≡◌, ℕ, zero, suc, ◌+◌, ◌*◌, ◌/◌, ◌%◌, ◌^◌, ◌<◌, ◌≤◌, Bool, true, false, cond, min, List, [], ◌∷◌, refl, arith, subst, ◌∙◌, lit<}
use Rattle.std.specs.List.{filter, range_with_len}
use Rattle.std.proofs.Math.Nat.{div-mul-le_self, mul-le-mul_left, pow-le-pow_right}
use Rattle.std.proofs.lemmas.Nat.{le-div, mul-le}
use Rattle.std.proofs.lemmas.Bool.Decides.{nat_tests}
use Rattle.mesh_num.specs.Portion.{portion}
use Rattle.mesh_num.specs.Rate.{rate}
use Rattle.mesh_num.specs.Share.{share}
use Rattle.mesh_rules.specs.Sums.{sum_over, sum_to}

-- the first shares
first_shares : (q n k : ℕ) → sum_to k (share q n) ≡ k * (q / n) + min k (q % n)
first_shares q n zero = omega arith
first_shares q n (suc k) = let h = first_shares q n k in grind (arith, nat_tests)

-- the shares add up
pub all_shares : (q n : ℕ) → 1 ≤ n → sum_to n (share q n) ≡ q
all_shares q n h = first_shares q n n ∙ whole q n h
  where
    whole : (q n : ℕ) → 1 ≤ n → n * (q / n) + min n (q % n) ≡ q
    whole q n h = omega arith

-- quotients grow
pub quotient_grows : (a b d : ℕ) → 1 ≤ d → a ≤ b → a / d ≤ b / d
quotient_grows a b d h k = let p = div-mul-le_self a d in le-div (a / d) b d (omega arith) (omega arith)

-- two quotients are at most that of the sum
pub quotients : (a b d : ℕ) → 1 ≤ d → a / d + b / d ≤ (a + b) / d
quotients a b d h =
    let p = div-mul-le_self a d in
    let q = div-mul-le_self b d in
    le-div (a / d + b / d) (a + b) d (omega arith) (omega arith)

-- two portions of a total are at most that by both
pub portions_by : (q a b d : ℕ) → 1 ≤ d → portion q a d + portion q b d ≤ portion q (a + b) d
portions_by q a b d h = let e : q * a + q * b ≡ q * (a + b) = omega arith in
    subst (λ v. portion q a d + portion q b d ≤ v / d) e (quotients (q * a) (q * b) d h)

-- the portions of two totals are at most that of both
pub portions_of : (p q c d : ℕ) → 1 ≤ d → portion p c d + portion q c d ≤ portion (p + q) c d
portions_of p q c d h = let e : p * c + q * c ≡ (p + q) * c = omega arith in
    subst (λ v. portion p c d + portion q c d ≤ v / d) e (quotients (p * c) (q * c) d h)

-- more by a greater part
pub portion_by_more : (q a b d : ℕ) → 1 ≤ d → a ≤ b → portion q a d ≤ portion q b d
portion_by_more q a b d h k = quotient_grows (q * a) (q * b) d h (mul-le-mul_left q k)

pub portion_of_more : (p q c d : ℕ) → 1 ≤ d → p ≤ q → portion p c d ≤ portion q c d
portion_of_more p q c d h k = quotient_grows (p * c) (q * c) d h (mul-le p c q c k (omega arith))

-- a proper part is at most the total
pub portion_within : (q c d : ℕ) → 1 ≤ d → c ≤ d → portion q c d ≤ q
portion_within q c d h k =
    let a : q * c ≤ q * d = mul-le-mul_left q k in
    let b : q * c / d ≤ q * d / d = quotient_grows (q * c) (q * d) d h a in
    let e : q * d / d ≡ q = whole q d h in
    subst (λ v. q * c / d ≤ v) e b
  where
    whole : (q d : ℕ) → 1 ≤ d → q * d / d ≡ q
    whole q d h = grind arith

-- portions of the items of a list
pub portions_over : (xs : List ℕ) (g : ℕ → ℕ) (c d : ℕ) → 1 ≤ d → sum_over xs (λ j. portion (g j) c d) ≤ portion (sum_over xs g) c d
portions_over [] g c d h = omega arith
portions_over (x ∷ xs) g c d h = let a = portions_over xs g c d h in let b = portions_of (g x) (sum_over xs g) c d h in omega arith

-- rates grow with the level
pub rate_grows : (v k low high : ℕ) → low ≤ high → rate v k low ≤ rate v k high
rate_grows v k low high h =
    let a : 2 ^ low ≤ 2 ^ high = pow-le-pow_right {n = 2} (lit< tt) h in
    let b : 4 ^ low ≤ 4 ^ high = pow-le-pow_right {n = 4} (lit< tt) h in
    let c : v * 2 ^ low ≤ v * 2 ^ high = mul-le-mul_left v a in
    let d : k * 4 ^ low ≤ k * 4 ^ high = mul-le-mul_left k b in
    omega arith

-- sums over the numbers that pass
step_sum : (p : ℕ → Bool) (xs : List ℕ) (g h : ℕ → ℕ) (a : ℕ) (b : Bool) → p a ≡ b → (p a ≡ true → g a ≤ h a) → sum_over xs g ≤ sum_over xs h → sum_over (cond b (a ∷ xs) xs) g ≤ sum_over (cond b (a ∷ xs) xs) h
step_sum p xs g h a true e here rest = let k = here e in omega arith
step_sum p xs g h a false e here rest = rest

pub sum_filter : (p : ℕ → Bool) (g h : ℕ → ℕ) (a n : ℕ) → ((j : ℕ) → j < a + n → p j ≡ true → g j ≤ h j) → sum_over (filter p (range_with_len a n)) g ≤ sum_over (filter p (range_with_len a n)) h
sum_filter p g h a zero each = omega arith
sum_filter p g h a (suc n) each = step_sum p (filter p (range_with_len (a + 1) n)) g h a (p a) refl (each a (omega arith)) (sum_filter p g h (a + 1) n (λ j l. each j (omega arith)))
