-- The masked serial run of a cycle: whole meshes, stage by stage, with what is kept of them. It knows no events and no buffers.
use Rattle.std.specs.Prelude.{◌≡◌, ◌==◌, ℕ, zero, suc, ◌+◌, Bool, true, false, cond, ◌&&◌, ◌||◌, not, nat_le}
use Rattle.std.specs.List.{list_any}
use Rattle.sparse_rounds.specs.Kernels.{Kernels, pairs_of}

-- the cells of each block and field, whether it is kept there, at how many checks in a row it was idle, and what was dropped there,
-- flowed in and out through faces of the domain, and was made and used by reactions
pub record Run (V : Type 0) : Type 0 where
  pub mesh : ℕ → ℕ → V
  pub kept : ℕ → ℕ → Bool
  pub idle : ℕ → ℕ → ℕ
  pub dropped : ℕ → ℕ → ℕ
  pub inflow : ℕ → ℕ → ℕ
  pub outflow : ℕ → ℕ → ℕ
  pub made : ℕ → ℕ → ℕ
  pub used : ℕ → ℕ → ℕ

-- a run with other cells, of which what is not kept is made zero and dropped
abbrev pub cut : {X V G F P W : Type 0} → Kernels X V G F P W → (ℕ → ℕ → Bool) → (ℕ → ℕ → V) → Run V → Run V
cut k mask mesh r = record r {
  mesh = λ b f. cond (mask b f) (mesh b f) k.no_cells;
  kept = mask;
  dropped = λ b f. r.dropped b f + cond (mask b f) 0 (k.amount (mesh b f));
}

-- the cells after a stage
abbrev pub staged : {X V G F P W : Type 0} → Kernels X V G F P W → (ℕ → ℕ → V) → ℕ → ℕ → V
staged k mesh b f = cond (k.has_fluxes f) (k.update b f (mesh b f) (pairs_of k mesh b f)) (mesh b f)

-- whether what is sent to a block, or flows in there, calls for a Sparse field
abbrev pub is_called : {X V G F P W : Type 0} → Kernels X V G F P W → (X → P) → ℕ → ℕ → Bool
is_called k parts b f = k.is_sparse f && (k.has_ghosts f && (k.inflow_calls b f || list_any (λ x. k.to x == b && k.calls (parts x)) k.ghost_due))

-- what is kept after the exchange of a stage
abbrev pub kept_next : {X V G F P W : Type 0} → Kernels X V G F P W → Run V → ℕ → ℕ → Bool
kept_next k r b f = r.kept b f || is_called k (λ x. k.region x (r.mesh (k.from x) f)) b f

abbrev pub after_stage : {X V G F P W : Type 0} → Kernels X V G F P W → Run V → Run V
after_stage k r = record (cut k (kept_next k r) (staged k r.mesh) r) {
  inflow = λ b f. r.inflow b f + cond (k.has_fluxes f) (k.inflow b f (pairs_of k r.mesh b f)) 0;
  outflow = λ b f. r.outflow b f + cond (k.has_fluxes f) (k.outflow b f (pairs_of k r.mesh b f)) 0;
}

-- the run after that many stages
abbrev pub run_at : {X V G F P W : Type 0} → Kernels X V G F P W → Run V → ℕ → Run V
run_at k start zero = start
run_at k start (suc n) = after_stage k (run_at k start n)

-- what is kept after the reaction, and the run then
abbrev pub kept_reacted : {X V G F P W : Type 0} → Kernels X V G F P W → Run V → ℕ → ℕ → Bool
kept_reacted k r b f = r.kept b f || (k.is_sparse f && k.cells_call (k.react b (r.mesh b) f))

abbrev pub after_reaction : {X V G F P W : Type 0} → Kernels X V G F P W → Run V → Run V
after_reaction k r = record (cut k (kept_reacted k r) (λ b. k.react b (r.mesh b)) r) {
  made = λ b f. r.made b f + k.made b (r.mesh b) f;
  used = λ b f. r.used b f + k.used b (r.mesh b) f;
}

-- whether a kept Sparse field has been idle at so many checks in a row that it is freed; and the counts of checks
abbrev pub is_freed : {X V G F P W : Type 0} → Kernels X V G F P W → V → Bool → ℕ → ℕ → Bool
is_freed k cells kept idle f = k.is_sparse f && (kept && (k.is_idle cells && nat_le k.idle_limit (idle + 1)))

abbrev pub idle_next : {X V G F P W : Type 0} → Kernels X V G F P W → V → Bool → ℕ → ℕ → ℕ
idle_next k cells kept idle f = cond (k.is_sparse f && kept) (cond (k.is_idle cells && not (nat_le k.idle_limit (idle + 1))) (idle + 1) 0) idle

abbrev pub kept_checked : {X V G F P W : Type 0} → Kernels X V G F P W → Run V → ℕ → ℕ → Bool
kept_checked k r b f = r.kept b f && not (is_freed k (r.mesh b f) (r.kept b f) (r.idle b f) f)

abbrev pub after_check : {X V G F P W : Type 0} → Kernels X V G F P W → Run V → Run V
after_check k r = record (cut k (kept_checked k r) r.mesh r) { idle = λ b f. idle_next k (r.mesh b f) (r.kept b f) (r.idle b f) f }

abbrev pub reacted_run : {X V G F P W : Type 0} → Kernels X V G F P W → Run V → Run V
reacted_run k start = after_reaction k (run_at k start k.stages)

abbrev pub checked_run : {X V G F P W : Type 0} → Kernels X V G F P W → Run V → Run V
checked_run k start = after_check k (reacted_run k start)

-- what a cycle may start from: a field that is not Sparse is kept everywhere, and what is not kept is zero
pub record IsStart {X V G F P W : Type 0} (k : Kernels X V G F P W) (r : Run V) : Type 0 where
  pub others_kept : (b f : ℕ) → k.is_sparse f ≡ false → r.kept b f ≡ true
  pub rest_zero : (b f : ℕ) → r.kept b f ≡ false → r.mesh b f ≡ k.no_cells

-- whether anything that is not zero is sent to a block
abbrev pub is_sent : {X V G F P W : Type 0} → Kernels X V G F P W → (ℕ → ℕ → V) → ℕ → ℕ → Bool
is_sent k mesh b f = list_any (λ x. k.to x == b && not (k.is_blank (k.region x (mesh (k.from x) f)))) k.ghost_due

-- where a buffer is made by the exchanges of so many stages: where the cycle starts with it kept, and where something is sent or flows in
abbrev pub touched : {X V G F P W : Type 0} → Kernels X V G F P W → Run V → ℕ → ℕ → ℕ → Bool
touched k start zero b f = start.kept b f
touched k start (suc n) b f = touched k start n b f || (k.is_sparse f && (k.has_ghosts f && (k.flows_in b f || is_sent k (run_at k start n).mesh b f)))
