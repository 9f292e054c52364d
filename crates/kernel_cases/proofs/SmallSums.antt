-- Sums of small numbers.
use Rattle.std.proofs.Common.{ℕ, zero, suc, ◌*◌, ◌<◌, ◌≤◌, ◌^◌, List, length, slice_index, arith, inl, inr, subst, sym, All}
use Rattle.std.proofs.lemmas.Bool.{cases_lt}
use Rattle.std.proofs.Math.ListN.{get_or-eq_default}
use Rattle.block_layout.specs.Indices.{count_of, number_of}
use Rattle.mesh_rules.specs.Sums.{sum_to}
use Rattle.restrict_prolong.specs.Refined.{at_index, factors, part_index, refined, sum_in}

pub each_small : (list : List ℕ) (k : ℕ) → All (λ t. t < 2 ^ 32) list → slice_index list k < 2 ^ 32
each_small list k small = elim (cases_lt k (length list)) [
  | inl less ↦ small k 0 less
  | inr most ↦ subst (λ (v : ℕ). v < 2 ^ 32) (sym (get_or-eq_default list 0 most)) (omega arith)
]

sum_most : (n : ℕ) (each : ℕ → ℕ) → ((k : ℕ) → each k < 2 ^ 32) → sum_to n each ≤ n * 2 ^ 32
sum_most zero each small = omega arith
sum_most (suc n) each small = omega (arith, sum_most n each small, small n)

pub eight : (dims : ℕ) → dims ≤ 3 → count_of (factors dims) ≤ 8
eight zero h = omega arith
eight (suc zero) h = omega arith
eight (suc (suc zero)) h = omega arith
eight (suc (suc (suc zero))) h = omega arith
eight (suc (suc (suc (suc n)))) h = absurd (omega arith)

pub eight_fit : (n : ℕ) (each : ℕ → ℕ) → n ≤ 8 → ((k : ℕ) → each k < 2 ^ 32) → sum_to n each < 2 ^ 62
eight_fit n each few small = omega (arith, few, sum_most n each small)

pub sums_small : (dims : ℕ) (n list i : List ℕ) → dims ≤ 3 → All (λ t. t < 2 ^ 32) list → sum_in (factors dims) (at_index (refined (factors dims) n) list) i < 2 ^ 64
sums_small dims n list i h small =
    let sum = eight_fit (count_of (factors dims)) (λ j. slice_index list (number_of (refined (factors dims) n) (part_index (factors dims) i j))) (eight dims h)
    (λ j. each_small list (number_of (refined (factors dims) n) (part_index (factors dims) i j)) small) in
    omega (arith, sum)

pub below_62 : (list : List ℕ) → All (λ t. t < 2 ^ 32) list → All (λ t. t < 2 ^ 62) list
below_62 list small k d h = omega (arith, small k d h)
