-- A cycle balances where a stage and a reaction do.
use Rattle.std.proofs.Common.{◌≡◌, ℕ, zero, suc, ◌+◌, Bool, true, false, cond, List, [], ◌∷◌, sum_by, refl, arith}
use Rattle.std.specs.List.{range_with_len}
use Rattle.std.proofs.lemmas.List.Sums.{sum_by-cons}
use Rattle.sparse_rounds.specs.Kernels.{AreKernels, Kernels, pairs_of}
use Rattle.sparse_rounds.specs.Masked.{Run, after_check, after_reaction, after_stage, checked_run, kept_checked, kept_next, kept_reacted, reacted_run, run_at, staged}
use Rattle.sparse_rounds.specs.Balance.{Balances, CycleBalances, ReactionBalances, StageBalances, gains, losses, sum_blocks, total_of}

-- sums term by term
sum_plus : {X : Type 0} (h f g : X → ℕ) → ((x : X) → h x ≡ f x + g x) → (xs : List X) → sum_by h xs ≡ sum_by f xs + sum_by g xs
sum_plus h f g e [] = refl
sum_plus h f g e (x ∷ xs) = let a = sum_by-cons h x xs in let b = sum_by-cons f x xs in let c = sum_by-cons g x xs in let d = e x in let r = sum_plus h f g e xs in omega arith

module _ {X V G F P W : Type 0} (k : Kernels X V G F P W) (laws : AreKernels k) (blocks f : ℕ) where
  cut_by : (kept : Bool) (v : V) → k.amount v ≡ k.amount (cond kept v k.no_cells) + cond kept 0 (k.amount v)
  cut_by true v = plus_none (k.amount v)
    where
      plus_none : (n : ℕ) → n ≡ n + 0
      plus_none n = omega arith
  cut_by false v = let z = laws.no_amount in omega arith

  -- what a cut leaves and what it drops
  cut_sum : (mask : ℕ → ℕ → Bool) (mesh : ℕ → ℕ → V) → total_of k blocks mesh f ≡ total_of k blocks (λ b f. cond (mask b f) (mesh b f) k.no_cells) f + sum_blocks blocks (λ b f. cond (mask b f) 0 (k.amount (mesh b f))) f
  cut_sum mask mesh = sum_plus (λ b. k.amount (mesh b f)) (λ b. k.amount (cond (mask b f) (mesh b f) k.no_cells)) (λ b. cond (mask b f) 0 (k.amount (mesh b f))) (λ b. cut_by (mask b f) (mesh b f)) (range_with_len 0 blocks)

  more_sum : (old more : ℕ → ℕ → ℕ) → sum_blocks blocks (λ b f. old b f + more b f) f ≡ sum_blocks blocks old f + sum_blocks blocks more f
  more_sum old more = sum_plus (λ b. old b f + more b f) (λ b. old b f) (λ b. more b f) (λ b. refl) (range_with_len 0 blocks)

  stage_balances : StageBalances k blocks f → (r : Run V) → Balances k blocks r (after_stage k r) f
  stage_balances h r =
      let a = h r.mesh in
      let b = cut_sum (kept_next k r) (staged k r.mesh) in
      let c = more_sum r.dropped (λ b f. cond (kept_next k r b f) 0 (k.amount (staged k r.mesh b f))) in
      let d = more_sum r.inflow (λ b f. cond (k.has_fluxes f) (k.inflow b f (pairs_of k r.mesh b f)) 0) in
      let e = more_sum r.outflow (λ b f. cond (k.has_fluxes f) (k.outflow b f (pairs_of k r.mesh b f)) 0) in
      omega arith

  reaction_balances : ReactionBalances k blocks f → (r : Run V) → Balances k blocks r (after_reaction k r) f
  reaction_balances h r =
      let a = h r.mesh in
      let b = cut_sum (kept_reacted k r) (λ b. k.react b (r.mesh b)) in
      let c = more_sum r.dropped (λ b f. cond (kept_reacted k r b f) 0 (k.amount (k.react b (r.mesh b) f))) in
      let d = more_sum r.made (λ b f. k.made b (r.mesh b) f) in
      let e = more_sum r.used (λ b f. k.used b (r.mesh b) f) in
      omega arith

  check_balances : (r : Run V) → Balances k blocks r (after_check k r) f
  check_balances r =
      let b = cut_sum (kept_checked k r) r.mesh in
      let c = more_sum r.dropped (λ b f. cond (kept_checked k r b f) 0 (k.amount (r.mesh b f))) in
      omega arith

  joined : (t1 t2 t3 l1 l2 l3 g1 g2 g3 : ℕ) → t2 + l2 + g1 ≡ t1 + g2 + l1 → t3 + l3 + g2 ≡ t2 + g3 + l2 → t3 + l3 + g1 ≡ t1 + g3 + l1
  joined t1 t2 t3 l1 l2 l3 g1 g2 g3 h i = omega arith

  then : (a b c : Run V) → Balances k blocks a b f → Balances k blocks b c f → Balances k blocks a c f
  then a b c h i = joined (total_of k blocks a.mesh f) (total_of k blocks b.mesh f) (total_of k blocks c.mesh f) (losses blocks a f) (losses blocks b f) (losses blocks c f) (gains blocks a f) (gains blocks b f) (gains blocks c f) h i

  stages_balance : StageBalances k blocks f → (start : Run V) (n : ℕ) → Balances k blocks start (run_at k start n) f
  stages_balance h start zero = omega arith
  stages_balance h start (suc n) = then start (run_at k start n) (run_at k start (suc n)) (stages_balance h start n) (stage_balances h (run_at k start n))

  pub cycle_balances_of : (start : Run V) → StageBalances k blocks f → ReactionBalances k blocks f → Balances k blocks start (checked_run k start) f
  cycle_balances_of start h i =
      then start (reacted_run k start) (checked_run k start)
      (then start (run_at k start k.stages) (reacted_run k start) (stages_balance h start k.stages) (reaction_balances i (run_at k start k.stages)))
      (check_balances (reacted_run k start))

pub cycle_balances : (X V G F P W : Type 0) → CycleBalances X V G F P W
cycle_balances X V G F P W k start blocks f laws h i = cycle_balances_of k laws blocks f start h i
