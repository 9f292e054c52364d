-- Sums of what is equal.
use Rattle.std.proofs.Common.{◌≡◌, ℕ, zero, suc, ◌<◌, refl, arith}
use Rattle.mesh_rules.specs.Sums.{sum_to}

-- sums of what is equal
pub sum_to-same : (n : ℕ) (g h : ℕ → ℕ) → ((j : ℕ) → j < n → g j ≡ h j) → sum_to n g ≡ sum_to n h
sum_to-same zero g h e = refl
sum_to-same (suc n) g h e = let a = sum_to-same n g h (λ j l. e j (omega arith)) in let b = e n (omega arith) in omega arith
