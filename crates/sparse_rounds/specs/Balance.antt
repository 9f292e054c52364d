-- What a field holds in all changes by flow through the faces of the domain, by reaction, and by what is dropped.
use Rattle.std.specs.Prelude.{◌≡◌, ℕ, ◌+◌, cond, sum_by}
use Rattle.std.specs.List.{range_with_len}
use Rattle.sparse_rounds.specs.Kernels.{AreKernels, Kernels, pairs_of}
use Rattle.sparse_rounds.specs.Masked.{Run, checked_run, staged}

-- the sum of what blocks hold of a field, over that many blocks
abbrev pub total_of : {X V G F P W : Type 0} → Kernels X V G F P W → ℕ → (ℕ → ℕ → V) → ℕ → ℕ
total_of k blocks mesh f = sum_by (λ b. k.amount (mesh b f)) (range_with_len 0 blocks)

abbrev pub sum_blocks : ℕ → (ℕ → ℕ → ℕ) → ℕ → ℕ
sum_blocks blocks sums f = sum_by (λ b. sums b f) (range_with_len 0 blocks)

-- a stage, and a reaction, of any mesh balances
abbrev pub StageBalances : {X V G F P W : Type 0} → Kernels X V G F P W → ℕ → ℕ → Type 0
StageBalances {X} {V} k blocks f = (mesh : ℕ → ℕ → V) →
    total_of k blocks (staged k mesh) f + sum_blocks blocks (λ b f. cond (k.has_fluxes f) (k.outflow b f (pairs_of k mesh b f)) 0) f
    ≡ total_of k blocks mesh f + sum_blocks blocks (λ b f. cond (k.has_fluxes f) (k.inflow b f (pairs_of k mesh b f)) 0) f

abbrev pub ReactionBalances : {X V G F P W : Type 0} → Kernels X V G F P W → ℕ → ℕ → Type 0
ReactionBalances {X} {V} k blocks f = (mesh : ℕ → ℕ → V) →
    total_of k blocks (λ b. k.react b (mesh b)) f + sum_blocks blocks (λ b f. k.used b (mesh b) f) f ≡ total_of k blocks mesh f + sum_blocks blocks (λ b f. k.made b (mesh b) f) f

-- what came in and what went since sums began, over all blocks
abbrev pub gains : {V : Type 0} → ℕ → Run V → ℕ → ℕ
gains blocks r f = sum_blocks blocks r.inflow f + sum_blocks blocks r.made f

abbrev pub losses : {V : Type 0} → ℕ → Run V → ℕ → ℕ
losses blocks r f = sum_blocks blocks r.outflow f + sum_blocks blocks r.used f + sum_blocks blocks r.dropped f

-- from one run to a later one: what is held, and was lost since, is what was held, and was gained since
abbrev pub Balances : {X V G F P W : Type 0} → Kernels X V G F P W → ℕ → Run V → Run V → ℕ → Type 0
Balances k blocks r later f = total_of k blocks later.mesh f + losses blocks later f + gains blocks r f ≡ total_of k blocks r.mesh f + gains blocks later f + losses blocks r f

abbrev pub CycleBalances : (X V G F P W : Type 0) → Type 0
CycleBalances X V G F P W = (k : Kernels X V G F P W) (start : Run V) (blocks f : ℕ) → AreKernels k → StageBalances k blocks f → ReactionBalances k blocks f → Balances k blocks start (checked_run k start) f
