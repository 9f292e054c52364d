-- The dense run: the kernels applied to whole meshes, with nothing kept or dropped.
use Rattle.std.specs.Prelude.{◌≡◌, ℕ, zero, suc, true, false}
use Rattle.sparse_rounds.specs.Kernels.{AreKernels, Kernels}
use Rattle.sparse_rounds.specs.Masked.{IsStart, Run, checked_run, reacted_run, run_at, staged}

-- the cells after that many stages
abbrev pub dense_at : {X V G F P W : Type 0} → Kernels X V G F P W → (ℕ → ℕ → V) → ℕ → ℕ → ℕ → V
dense_at k mesh zero = mesh
dense_at k mesh (suc n) = staged k (dense_at k mesh n)

-- both thresholds are zero: what does not call, or is idle, is nothing
pub record AreZeroThresholds {X V G F P W : Type 0} (k : Kernels X V G F P W) : Type 0 where
  pub parts : (x : X) (v : V) → k.calls (k.region x v) ≡ false → k.region x v ≡ k.no_part x
  pub inflows : (b f : ℕ) → k.flows_in b f ≡ true → k.inflow_calls b f ≡ true
  pub cells : (v : V) → k.cells_call v ≡ false → v ≡ k.no_cells
  pub idle : (v : V) → k.is_idle v ≡ true → v ≡ k.no_cells

-- a run has these cells, and dropped nothing since its start
pub record IsDense {V : Type 0} (start r : Run V) (mesh : ℕ → ℕ → V) : Type 0 where
  pub cells : (b f : ℕ) → r.mesh b f ≡ mesh b f
  pub dropped : (b f : ℕ) → r.dropped b f ≡ start.dropped b f

-- at zero thresholds the masked run is the dense run, and drops nothing; a place that is not kept is zero in it
abbrev pub MaskedIsDense : (X V G F P W : Type 0) → Type 0
MaskedIsDense X V G F P W = (k : Kernels X V G F P W) (start : Run V) → AreKernels k → IsStart k start → AreZeroThresholds k →
    ((n : ℕ) → IsDense start (run_at k start n) (dense_at k start.mesh n))
    × IsDense start (reacted_run k start) (λ b. k.react b (dense_at k start.mesh k.stages b))
    × IsDense start (checked_run k start) (λ b. k.react b (dense_at k start.mesh k.stages b))
    × ((b f : ℕ) → (checked_run k start).kept b f ≡ false → k.react b (dense_at k start.mesh k.stages b) f ≡ k.no_cells)
