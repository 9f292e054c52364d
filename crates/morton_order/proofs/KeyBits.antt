-- The Morton key, built from the highest bits down.
use Rattle.std.proofs.Common.{◌≡◌, ℕ, zero, suc, ◌+◌, ◌-◌, ◌*◌, ◌/◌, ◌%◌, ◌^◌, ◌<◌, ◌≤◌, refl, arith, subst, sym, lit<}
use Rattle.std.proofs.lemmas.Nat.{pow-add, shl_below, shr-shr}
use Rattle.std.proofs.Math.Nat.{pow-suc, pow-le-pow_right}
use Rattle.morton_order.specs.Key.{interleaved}

-- the digit of three bits
abbrev pub digit : ℕ → ℕ → ℕ → ℕ
digit x y z = x % 2 + 2 * (y % 2) + 4 * (z % 2)

-- n digits to base 8 are below 8 ^ n
pub interleaved_below : (n x y z : ℕ) → interleaved n x y z < 8 ^ n
unfolding interleaved
interleaved_below zero x y z = lit< tt
interleaved_below (suc n) x y z =
    let h : interleaved n (x / 2) (y / 2) (z / 2) < 8 ^ n = interleaved_below n (x / 2) (y / 2) (z / 2) in
    let e : 8 ^ suc n ≡ 8 ^ n * 8 = pow-suc 8 n in
    let a : x % 2 < 2 = omega arith in
    let b : y % 2 < 2 = omega arith in
    let d : z % 2 < 2 = omega arith in
    omega arith

-- the number without its lowest bit
halved : (x b : ℕ) → x / 2 ^ b / 2 ≡ x / 2 ^ (b + 1)
halved x b = shr-shr x b 1

-- one more digit at the low end
pub interleaved_more : (n b x y z : ℕ) → interleaved (suc n) (x / 2 ^ b) (y / 2 ^ b) (z / 2 ^ b) ≡ digit (x / 2 ^ b) (y / 2 ^ b) (z / 2 ^ b) + 8 * interleaved n (x / 2 ^ (b + 1)) (y / 2 ^ (b + 1)) (z / 2 ^ (b + 1))
unfolding interleaved
interleaved_more n b x y z = rw (halved x b, halved y b, halved z b) refl

-- the step of the loop that builds the key
pub key_step : (i x y z : ℕ) → i < 26 → interleaved (i + 1) (x / 2 ^ (26 - (i + 1))) (y / 2 ^ (26 - (i + 1))) (z / 2 ^ (26 - (i + 1))) ≡ 8 * interleaved i (x / 2 ^ (26 - i)) (y / 2 ^ (26 - i)) (z / 2 ^ (26 - i)) + digit (x / 2 ^ (25 - i)) (y / 2 ^ (25 - i)) (z / 2 ^ (25 - i))
key_step i x y z h =
    let a : 26 - (i + 1) ≡ 25 - i = omega arith in
    let b : 25 - i + 1 ≡ 26 - i = omega arith in
    let c : i + 1 ≡ suc i = omega arith in
    let e = interleaved_more i (25 - i) x y z in
    let f : interleaved (suc i) (x / 2 ^ (25 - i)) (y / 2 ^ (25 - i)) (z / 2 ^ (25 - i)) ≡ digit (x / 2 ^ (25 - i)) (y / 2 ^ (25 - i)) (z / 2 ^ (25 - i)) + 8 * interleaved i (x / 2 ^ (26 - i)) (y / 2 ^ (26 - i)) (z / 2 ^ (26 - i)) =
    subst (λ v. interleaved (suc i) (x / 2 ^ (25 - i)) (y / 2 ^ (25 - i)) (z / 2 ^ (25 - i)) ≡ digit (x / 2 ^ (25 - i)) (y / 2 ^ (25 - i)) (z / 2 ^ (25 - i)) + 8 * interleaved i (x / 2 ^ v) (y / 2 ^ v) (z / 2 ^ v)) b e in
    subst (λ v. interleaved (i + 1) (x / 2 ^ v) (y / 2 ^ v) (z / 2 ^ v) ≡ 8 * interleaved i (x / 2 ^ (26 - i)) (y / 2 ^ (26 - i)) (z / 2 ^ (26 - i)) + digit (x / 2 ^ (25 - i)) (y / 2 ^ (25 - i)) (z / 2 ^ (25 - i))) (sym a)
    (subst (λ v. interleaved v (x / 2 ^ (25 - i)) (y / 2 ^ (25 - i)) (z / 2 ^ (25 - i)) ≡ 8 * interleaved i (x / 2 ^ (26 - i)) (y / 2 ^ (26 - i)) (z / 2 ^ (26 - i)) + digit (x / 2 ^ (25 - i)) (y / 2 ^ (25 - i)) (z / 2 ^ (25 - i))) (sym c) (omega (arith, f)))

-- no power that the loop meets passes that of the whole key
pub power_below : (i : ℕ) → i ≤ 26 → 8 ^ i ≤ 2 ^ 78
power_below i h = let e : 8 ^ i ≤ 8 ^ 26 = pow-le-pow_right {n = 8} (lit< tt) h in e

-- a coordinate on the finest lattice is below 2 ^ 26
pub finest_below : (level x : ℕ) → level ≤ 10 → x < 65536 * 2 ^ level → x * 2 ^ (10 - level) < 2 ^ 26
finest_below level x h p =
    let e : 2 ^ (16 + level) ≡ 2 ^ 16 * 2 ^ level = pow-add 2 16 level in
    let q : x < 2 ^ (16 + level) = omega arith in
    let s : 16 + level + (10 - level) ≡ 26 = omega arith in
    subst (λ v. x * 2 ^ (10 - level) < 2 ^ v) s (shl_below x (16 + level) (10 - level) q)
