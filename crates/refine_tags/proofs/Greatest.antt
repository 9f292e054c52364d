-- The greatest of what numbers give.
use Rattle.std.proofs.Common.{◌≡◌, ℕ, zero, suc, ◌+◌, ◌<◌, ◌≤◌, max, refl, subst, sym, add-one, arith, inl, inr}
use Rattle.std.proofs.lemmas.Bool.{cases_eq}
use Rattle.mesh_rules.specs.Sums.{greatest_to}

-- one number more
pub greatest_more : (n : ℕ) (g : ℕ → ℕ) → greatest_to (n + 1) g ≡ max (greatest_to n g) (g n)
greatest_more n g = rw add-one refl

-- it is as great as each
pub greatest_above : (n : ℕ) (g : ℕ → ℕ) (k : ℕ) → k < n → g k ≤ greatest_to n g
greatest_above zero g k h = absurd (omega arith)
greatest_above (suc n) g k h = elim (cases_eq k n) [
  | inl e ↦ subst (λ j. g j ≤ max (greatest_to n g) (g n)) (sym e) (omega arith)
  | inr other ↦ let before = greatest_above n g k (omega arith) in omega arith
]

-- and no greater than all are
pub greatest_least : (n : ℕ) (g : ℕ → ℕ) (most : ℕ) → ((k : ℕ) → k < n → g k ≤ most) → greatest_to n g ≤ most
greatest_least zero g most h = omega arith
greatest_least (suc n) g most h = let before = greatest_least n g most (λ k l. h k (omega arith)) in let last = h n (omega arith) in omega arith
