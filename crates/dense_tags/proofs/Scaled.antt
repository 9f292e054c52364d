-- The greatest of what is scaled.
use Rattle.std.proofs.Common.{◌≡◌, ℕ, zero, suc, ◌+◌, ◌-◌, ◌*◌, ◌<◌, ◌≤◌, Bool, true, false, cond, max, refl, arith, ap, ◌∙◌, inl, inr}
use Rattle.std.proofs.Math.Nat.{mul-le-mul_right, zero-mul}
use Rattle.std.proofs.lemmas.Bool.{cases_lt}
use Rattle.mesh_rules.specs.Sums.{greatest_to}
use Rattle.mesh_rules.specs.Tags.{difference}

max_scaled : (a b s : ℕ) → max a b * s ≡ max (a * s) (b * s)
max_scaled a b s = elim (cases_lt a b) [
  | inl less ↦
      let most : a * s ≤ b * s = mul-le-mul_right s (omega arith) in
      let is : max a b ≡ b = omega arith in
      ap (λ v. v * s) is ∙ omega arith
  | inr few ↦
      let most : b * s ≤ a * s = mul-le-mul_right s few in
      let is : max a b ≡ a = omega arith in
      ap (λ v. v * s) is ∙ omega arith
]

pub greatest_scaled : (n : ℕ) (g : ℕ → ℕ) (s : ℕ) → greatest_to n g * s ≡ greatest_to n (λ k. g k * s)
greatest_scaled zero g s = zero-mul s
greatest_scaled (suc n) g s = max_scaled (greatest_to n g) (g n) s ∙ ap (λ v. max v (g n * s)) (greatest_scaled n g s)

pub greatest_same : (n : ℕ) (g h : ℕ → ℕ) → ((k : ℕ) → k < n → g k ≡ h k) → greatest_to n g ≡ greatest_to n h
greatest_same zero g h same = refl
greatest_same (suc n) g h same = ap (λ v. max v (g n)) (greatest_same n g h (λ k small. same k (omega arith))) ∙ ap (max (greatest_to n h)) (same n (omega arith))

pub difference_scaled : (a b s : ℕ) → difference a b * s ≡ difference (a * s) (b * s)
difference_scaled a b s = elim (cases_lt a b) [
  | inl less ↦
      let most : a * s ≤ b * s = mul-le-mul_right s (omega arith) in
      let is : difference a b ≡ b - a = omega arith in
      let d : (b - a) * s + a * s ≡ b * s = by (b - a) a b s (omega arith) in
      ap (λ v. v * s) is ∙ omega arith
  | inr few ↦
      let most : b * s ≤ a * s = mul-le-mul_right s few in
      let is : difference a b ≡ a - b = omega arith in
      let d : (a - b) * s + b * s ≡ a * s = by (a - b) b a s (omega arith) in
      ap (λ v. v * s) is ∙ omega arith
]
  where
    by : (d a b s : ℕ) → d + a ≡ b → d * s + a * s ≡ b * s
    by d a b s e = omega arith ∙ ap (λ v. v * s) e

pub cond_scaled : (t : Bool) (v s : ℕ) → cond t v 0 * s ≡ cond t (v * s) 0
cond_scaled true v s = refl
cond_scaled false v s = zero-mul s
