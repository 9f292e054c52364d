-- At zero thresholds nothing is dropped.
use Rattle.std.proofs.Common.{◌≡◌, ℕ, zero, suc, ◌+◌, Bool, true, false, cond, not, ◌&&◌, ◌||◌, ◌==◌, nat_le, refl, arith, ap, sym, ◌∙◌, eq-eqb}
use Rattle.std.specs.List.{list_any}
use Rattle.std.proofs.lemmas.Bool.{and_from, false≢true, false_from_ne_true, not-false, or_parts, true≢false, true_from_ne_false}
use Rattle.sparse_rounds.specs.Kernels.{AreKernels, Kernels, SameParts, ghosts_of, own_pairs, pairs_of}
use Rattle.sparse_rounds.specs.Masked.{IsStart, Run, checked_run, is_called, is_freed, kept_checked, kept_next, kept_reacted, reacted_run, run_at, staged}
use Rattle.sparse_rounds.specs.Dense.{AreZeroThresholds, IsDense, MaskedIsDense, dense_at}
use Rattle.sparse_rounds.proofs.Runs.{any_there, if_false, if_true, others_kept, rest_zero}

module _ {X V G F P W : Type 0} (k : Kernels X V G F P W) (laws : AreKernels k) (start : Run V) (is : IsStart k start) (zeros : AreZeroThresholds k) where
  -- a test of three is false in its last
  third_false : (a b c : Bool) → a ≡ true → b ≡ true → (a && (b && c)) ≡ false → c ≡ false
  third_false true true c e d h = h
  third_false true false c e d h = absurd (false≢true d)
  third_false false b c e d h = absurd (false≢true e)

  uncalled_part : (mesh : ℕ → ℕ → V) (b f : ℕ) → list_any (λ x. k.to x == b && k.calls (k.region x (mesh (k.from x) f))) k.ghost_due ≡ false → SameParts k.same k.to k.ghost_due b (λ x. k.region x (mesh (k.from x) f)) k.no_part
  uncalled_part mesh b f h x s = zeros.parts x (mesh (k.from x) f) (false_from_ne_true (k.calls (k.region x (mesh (k.from x) f))) (λ e.
      true≢false (sym (any_there k.same laws.same_is (λ y. k.to y == b && k.calls (k.region y (mesh (k.from y) f))) x k.ghost_due s.is_due
      (and_from (k.to x == b) (k.calls (k.region x (mesh (k.from x) f))) (eq-eqb (k.to x) b s.is_to) e)) ∙ h)))

  -- what is not kept after an exchange is nothing after the stage
  unkept_stage : (n b f : ℕ) → kept_next k (run_at k start n) b f ≡ false → (has : Bool) → k.has_fluxes f ≡ has → staged k (run_at k start n).mesh b f ≡ k.no_cells
  unkept_stage n b f h false e =
      let p = or_parts ((run_at k start n).kept b f) (is_called k (λ x. k.region x ((run_at k start n).mesh (k.from x) f)) b f) h in
      if_false (k.has_fluxes f) (k.update b f ((run_at k start n).mesh b f) (pairs_of k (run_at k start n).mesh b f)) ((run_at k start n).mesh b f) e ∙ rest_zero k laws start is n b f p.0
  unkept_stage n b f h true e =
      let mesh = (run_at k start n).mesh in
      let sent = list_any (λ x. k.to x == b && k.calls (k.region x (mesh (k.from x) f))) k.ghost_due in
      let p = or_parts ((run_at k start n).kept b f) (is_called k (λ x. k.region x (mesh (k.from x) f)) b f) h in
      let sp = true_from_ne_false (k.is_sparse f) (λ d. true≢false (sym (others_kept k laws start is n b f d) ∙ p.0)) in
      let has = laws.fluxes_need_ghosts f e in
      let q = or_parts (k.inflow_calls b f) sent (third_false (k.is_sparse f) (k.has_ghosts f) (k.inflow_calls b f || sent) sp has p.1) in
      let dry = false_from_ne_true (k.flows_in b f) (λ d. true≢false (sym (zeros.inflows b f d) ∙ q.0)) in
      let cells = rest_zero k laws start is n b f p.0 in
      let ghosts : ghosts_of k mesh b f ≡ k.no_ghosts = laws.ghosts_of_none b f (λ x. k.region x (mesh (k.from x) f)) dry (uncalled_part mesh b f q.1) in
      let own : own_pairs k mesh b f ≡ k.no_pairs = ap (λ v. k.fluxes b f v (ghosts_of k mesh b f)) cells ∙ ap (k.fluxes b f k.no_cells) ghosts ∙ laws.no_flux b f in
      let pairs : pairs_of k mesh b f ≡ k.no_pairs = ap (λ v. k.corrected b f v (λ x. k.flux_sums x (own_pairs k mesh (k.from x) f))) own ∙ laws.pairs_of_none b f (λ x. k.flux_sums x (own_pairs k mesh (k.from x) f)) (laws.sums_of_none mesh b f e cells ghosts) in
      if_true (k.has_fluxes f) (k.update b f (mesh b f) (pairs_of k mesh b f)) (mesh b f) e ∙ ap (λ v. k.update b f v (pairs_of k mesh b f)) cells ∙ ap (k.update b f k.no_cells) pairs ∙ laws.no_update b f

  -- a cut takes nothing where what it cuts is nothing
  uncut : (kept : Bool) (v : V) → (kept ≡ false → v ≡ k.no_cells) → (cond kept v k.no_cells ≡ v) × (cond kept 0 (k.amount v) ≡ 0)
  uncut true v h = (refl, refl)
  uncut false v h = (sym (h refl), ap k.amount (h refl) ∙ laws.no_amount)

  plus_none : (a b c : ℕ) → a ≡ b → c ≡ 0 → a + c ≡ b
  plus_none a b c e z = omega arith

  pub stage_dense : (n : ℕ) → IsDense start (run_at k start n) (dense_at k start.mesh n)
  stage_dense zero = record { cells = λ b f. refl; dropped = λ b f. refl }
  stage_dense (suc n) =
      let h = stage_dense n in
      let cut = λ (b f : ℕ). uncut (kept_next k (run_at k start n) b f) (staged k (run_at k start n).mesh b f) (λ e. unkept_stage n b f e (k.has_fluxes f) refl) in
      let same : (run_at k start n).mesh ≡ dense_at k start.mesh n = λ i b f. h.cells b f i in
      record {
        cells = λ b f. (cut b f).0 ∙ ap (λ (v : ℕ → ℕ → V). staged k v b f) same;
        dropped = λ b f. plus_none ((run_at k start n).dropped b f) (start.dropped b f) (cond (kept_next k (run_at k start n) b f) 0 (k.amount (staged k (run_at k start n).mesh b f))) (h.dropped b f) (cut b f).1;
      }

  unkept_reacted : (b f : ℕ) → kept_reacted k (run_at k start k.stages) b f ≡ false → k.react b ((run_at k start k.stages).mesh b) f ≡ k.no_cells
  unkept_reacted b f h =
      let p = or_parts ((run_at k start k.stages).kept b f) (k.is_sparse f && k.cells_call (k.react b ((run_at k start k.stages).mesh b) f)) h in
      let sp = true_from_ne_false (k.is_sparse f) (λ d. true≢false (sym (others_kept k laws start is k.stages b f d) ∙ p.0)) in
      zeros.cells (k.react b ((run_at k start k.stages).mesh b) f) (sym (ap (λ (v : Bool). v && k.cells_call (k.react b ((run_at k start k.stages).mesh b) f)) sp) ∙ p.1)

  pub reaction_dense : IsDense start (reacted_run k start) (λ b. k.react b (dense_at k start.mesh k.stages b))
  reaction_dense =
      let h = stage_dense k.stages in
      let r = run_at k start k.stages in
      let cut = λ (b f : ℕ). uncut (kept_reacted k r b f) (k.react b (r.mesh b) f) (unkept_reacted b f) in
      let same : r.mesh ≡ dense_at k start.mesh k.stages = λ i b f. h.cells b f i in
      record {
        cells = λ b f. (cut b f).0 ∙ ap (λ (v : ℕ → ℕ → V). k.react b (v b) f) same;
        dropped = λ b f. plus_none (r.dropped b f) (start.dropped b f) (cond (kept_reacted k r b f) 0 (k.amount (k.react b (r.mesh b) f))) (h.dropped b f) (cut b f).1;
      }

  reacted_zero : (b f : ℕ) → (reacted_run k start).kept b f ≡ false → (reacted_run k start).mesh b f ≡ k.no_cells
  reacted_zero b f h = if_false (kept_reacted k (run_at k start k.stages) b f) (k.react b ((run_at k start k.stages).mesh b) f) k.no_cells h

  freed_is : (b f : ℕ) → is_freed k ((reacted_run k start).mesh b f) ((reacted_run k start).kept b f) ((reacted_run k start).idle b f) f ≡ true → (reacted_run k start).mesh b f ≡ k.no_cells
  freed_is b f h = zeros.idle ((reacted_run k start).mesh b f) (idle_of (k.is_sparse f) ((reacted_run k start).kept b f) (k.is_idle ((reacted_run k start).mesh b f)) (nat_le k.idle_limit ((reacted_run k start).idle b f + 1)) h)
    where
      idle_of : (a b c d : Bool) → (a && (b && (c && d))) ≡ true → c ≡ true
      idle_of true true true d h = refl
      idle_of true true false d h = h
      idle_of true false c d h = absurd (false≢true h)
      idle_of false b c d h = absurd (false≢true h)

  unkept_checked : (b f : ℕ) (kept : Bool) → (reacted_run k start).kept b f ≡ kept → (kept && not (is_freed k ((reacted_run k start).mesh b f) ((reacted_run k start).kept b f) ((reacted_run k start).idle b f) f)) ≡ false → (reacted_run k start).mesh b f ≡ k.no_cells
  unkept_checked b f false e h = reacted_zero b f e
  unkept_checked b f true e h = freed_is b f (not-false (is_freed k ((reacted_run k start).mesh b f) ((reacted_run k start).kept b f) ((reacted_run k start).idle b f) f) h)

  pub check_dense : IsDense start (checked_run k start) (λ b. k.react b (dense_at k start.mesh k.stages b))
  check_dense =
      let h = reaction_dense in
      let r = reacted_run k start in
      let cut = λ (b f : ℕ). uncut (kept_checked k r b f) (r.mesh b f) (unkept_checked b f (r.kept b f) refl) in
      record {
        cells = λ b f. (cut b f).0 ∙ h.cells b f;
        dropped = λ b f. plus_none (r.dropped b f) (start.dropped b f) (cond (kept_checked k r b f) 0 (k.amount (r.mesh b f))) (h.dropped b f) (cut b f).1;
      }

  pub rest_dense : (b f : ℕ) → (checked_run k start).kept b f ≡ false → k.react b (dense_at k start.mesh k.stages b) f ≡ k.no_cells
  rest_dense b f h = sym (reaction_dense.cells b f) ∙ unkept_checked b f ((reacted_run k start).kept b f) refl h

pub masked_is_dense : (X V G F P W : Type 0) → MaskedIsDense X V G F P W
masked_is_dense X V G F P W k start laws is zeros = (stage_dense k laws start is zeros, reaction_dense k laws start is zeros, check_dense k laws start is zeros, rest_dense k laws start is zeros)
