-- Why a product with a multiplier is the portion.
use Rattle.std.proofs.Common.{◌≡◌, ℕ, ◌+◌, ◌-◌, ◌*◌, ◌/◌, ◌<◌, ◌≤◌, arith, sym, ◌∙◌, ap, subst}
use Rattle.std.proofs.Math.Nat.{div-mul-le_self, lt-div-mul-add, le_of_mul-le-mul_right, lt_of_mul-lt-mul_right, mul-le-mul_left, mul-add-div_right, div-div-eq-div-mul}
use Rattle.std.proofs.lemmas.Nat.{div-mul-add}
use Rattle.upwind_portions.specs.Multiplier.{multiplier_of}

-- a quotient is the number whose product is next below
pub quotient_is : (x w t : ℕ) → t * w ≤ x → x < (t + 1) * w → x / w ≡ t
quotient_is x w t least most =
    let b : x - t * w < w = omega (arith, split_next t w) in
    let e : t * w + (x - t * w) ≡ x = omega arith in
    subst (λ (y : ℕ). y / w ≡ t) e (div-mul-add t w (x - t * w) b)
  where
    split_next : (t w : ℕ) → (t + 1) * w ≡ t * w + w
    split_next t w = omega arith

-- t * w is at most q * m, as the product with d shows
below : (q c d w m t : ℕ) → 0 < d → t * d ≤ q * c → w * c ≤ m * d → t * w ≤ q * m
below q c d w m t some near above =
    let a : w * (t * d) ≤ w * (q * c) = mul-le-mul_left w near in
    let b : q * (w * c) ≤ q * (m * d) = mul-le-mul_left q above in
    le_of_mul-le-mul_right (omega (arith, regroup)) some
  where
    regroup : (w * (t * d) ≡ t * w * d) × (w * (q * c) ≡ q * (w * c)) × (q * (m * d) ≡ q * m * d)
    regroup = (omega arith, omega arith, omega arith)

-- q * m is below (t + 1) * w, as the product with d shows
next_above : (q c d w m t : ℕ) → q * c < (t + 1) * d → m * d ≤ w * c + d → q * d < w → q * m < (t + 1) * w
next_above q c d w m t near least small =
    let n : q * c + 1 ≤ (t + 1) * d = omega arith in
    let a : w * (q * c + 1) ≤ w * ((t + 1) * d) = mul-le-mul_left w n in
    let b : q * (m * d) ≤ q * (w * c + d) = mul-le-mul_left q least in
    lt_of_mul-lt-mul_right d (omega (arith, regroup))
  where
    regroup : (w * (q * c + 1) ≡ q * (w * c) + w) × (w * ((t + 1) * d) ≡ (t + 1) * w * d) × (q * (w * c + d) ≡ q * (w * c) + q * d) × (q * (m * d) ≡ q * m * d)
    regroup = (omega arith, omega arith, omega arith, omega arith)

-- a number between w * c / d and w * c / d + 1, times a total that is small for the scale, divides to the portion
pub scaled_is_portion : (q c d w m : ℕ) → 0 < d → w * c ≤ m * d → m * d ≤ w * c + d → q * d < w → q * m / w ≡ q * c / d
scaled_is_portion q c d w m some above near small =
    let t = q * c / d in
    let a : t * d ≤ q * c = div-mul-le_self (q * c) d in
    let b : q * c < (t + 1) * d = omega (arith, lt-div-mul-add {a = q * c} some, next t) in
    quotient_is (q * m) w t (below q c d w m t some a above) (next_above q c d w m t b near small)
  where
    next : (t : ℕ) → (t + 1) * d ≡ t * d + d
    next t = omega arith

-- the next number above a quotient is between the two
pub multiplier_near : (w c d : ℕ) → 0 < d → (w * c ≤ multiplier_of w c d * d) × (multiplier_of w c d * d ≤ w * c + d)
multiplier_near w c d some =
    (omega (arith, lt-div-mul-add {a = w * c} some, next (w * c / d)), omega (arith, div-mul-le_self (w * c) d, next (w * c / d)))
  where
    next : (t : ℕ) → (t + 1) * d ≡ t * d + d
    next t = omega arith

pub multiplier_is_exact : (w q c d : ℕ) → 0 < d → q * d < w → q * multiplier_of w c d / w ≡ q * c / d
multiplier_is_exact w q c d some small =
    let near = multiplier_near w c d some in
    scaled_is_portion q c d w (multiplier_of w c d) some near.0 near.1 small

-- a product with a multiplier of two words: the low word's share of the scale first, then the rest of it
pub in_words : (q high low w v : ℕ) → 0 < w → (q * high + q * low / w) / v ≡ q * (high * w + low) / (w * v)
in_words q high low w v some =
    let e : q * (high * w + low) ≡ q * high * w + q * low = omega arith in
    let d : q * (high * w + low) / w ≡ q * high + q * low / w = ap (λ (n : ℕ). n / w) e ∙ mul-add-div_right some (q * high) (q * low) in
    sym (ap (λ (n : ℕ). n / v) d) ∙ div-div-eq-div-mul (q * (high * w + low)) w v

-- a total that is no greater than the greatest one is small as well
pub small_too : (q most d w : ℕ) → q ≤ most → most * d < w → q * d < w
small_too q most d w h small = omega (arith, grows)
  where
    grows : q * d ≤ most * d
    grows = grind arith

-- a product is at most that of two greater numbers
pub product_at_most : (q d a b : ℕ) → q ≤ a → d ≤ b → q * d ≤ a * b
product_at_most q d a b h k = grind arith
