-- Sums and tables.
use Rattle.std.specs.Prelude.{ℕ, zero, suc, ◌+◌, List, [], ◌∷◌, map, max}
use Rattle.std.specs.List.{range_with_len}

-- the sum of what each number below n gives
abbrev pub sum_to : ℕ → (ℕ → ℕ) → ℕ
sum_to zero each = 0
sum_to (suc n) each = sum_to n each + each n

-- the sum of what each item gives
abbrev pub sum_over : {X : Type 0} → List X → (X → ℕ) → ℕ
sum_over [] each = 0
sum_over (x ∷ xs) each = each x + sum_over xs each

-- the list of what each number below n gives
abbrev pub table : {X : Type 0} → ℕ → (ℕ → X) → List X
table n each = map each (range_with_len 0 n)

-- the greatest of what each number below n gives, or zero
abbrev pub greatest_to : ℕ → (ℕ → ℕ) → ℕ
greatest_to zero each = 0
greatest_to (suc n) each = max (greatest_to n each) (each n)
