-- One stage of a mesh by its kernels.
use Rattle.std.specs.Prelude.{◌≡◌, ℕ, ◌<◌, Bool, ◌&&◌, cond, List, length}
use Rattle.mesh_rules.specs.Mesh.{block_size, totals_on}
use Rattle.mesh_rules.specs.Fields.{field_count, has_fluxes, is_sparse}
use Rattle.mesh_rules.specs.Mask.{exchange_calls}
use Rattle.mesh_rules.specs.Stage.{leaf_inflow, leaf_outflow, stage}
use Rattle.sparse_rounds.specs.Kernels.{pairs_of}
use Rattle.sparse_rounds.specs.Masked.{is_called, staged}
use Rattle.cycle_kernels.specs.Blocks.{CycleMesh, leaf_at}
use Rattle.cycle_kernels.specs.Kernels.{kernels_of}
use Rattle.cycle_kernels.specs.Pairs.{FacePairs}
use Rattle.cycle_kernels.specs.Laws.{IsCycleMesh}

-- the mesh of a cycle that has a total for each cell of each field
pub record IsReady (w : CycleMesh) : Type 0 where
  pub cycle : IsCycleMesh w
  pub lists : (b f : ℕ) → b < length w.mesh.leaves → f < field_count w.settings →
      length (totals_on w.mesh b f) ≡ block_size w.mesh

-- lists by block and field have the totals of the mesh on each of its leaves
abbrev pub HasTotals : CycleMesh → (ℕ → ℕ → List ℕ) → Type 0
HasTotals w cells = (b f : ℕ) → b < length w.mesh.leaves → f < field_count w.settings → cells b f ≡ totals_on w.mesh b f

-- what passes the faces of a block in a stage of them, corrected by finer blocks
abbrev pub stage_pairs : CycleMesh → (ℕ → ℕ → List ℕ) → ℕ → ℕ → FacePairs
stage_pairs w cells b f = pairs_of (kernels_of w) cells b f

-- what flows in and out through the faces of the domain; nothing of a field without fluxes
abbrev pub flows_in : CycleMesh → (ℕ → ℕ → List ℕ) → ℕ → ℕ → ℕ
flows_in w cells b f = cond (has_fluxes w.settings f) ((kernels_of w).inflow b f (stage_pairs w cells b f)) 0

abbrev pub flows_out : CycleMesh → (ℕ → ℕ → List ℕ) → ℕ → ℕ → ℕ
flows_out w cells b f = cond (has_fluxes w.settings f) ((kernels_of w).outflow b f (stage_pairs w cells b f)) 0

-- whether what is sent, or flows in, calls for a field that blocks may go without
abbrev pub calls_for : CycleMesh → (ℕ → ℕ → List ℕ) → ℕ → ℕ → Bool
calls_for w cells b f = is_called (kernels_of w) (λ x. (kernels_of w).region x (cells x.from f)) b f

-- what the kernels make of them on a block is the stage of the rules; what flows through the domain's faces there is
-- the leaf's inflow and outflow; and they call for a field exactly where the exchange of the rules does
pub record IsStage (w : CycleMesh) (cells : ℕ → ℕ → List ℕ) (b f : ℕ) : Type 0 where
  pub totals : staged (kernels_of w) cells b f ≡ totals_on (stage w.settings w.mesh) b f
  pub inflow : flows_in w cells b f ≡ leaf_inflow w.settings w.mesh f (leaf_at w b)
  pub outflow : flows_out w cells b f ≡ leaf_outflow w.settings w.mesh f (leaf_at w b)
  pub calls : calls_for w cells b f ≡ (is_sparse w.settings f && exchange_calls w.settings w.mesh f (leaf_at w b))

abbrev pub StagesAreTheRules : Type 0
StagesAreTheRules = (w : CycleMesh) (cells : ℕ → ℕ → List ℕ) (b f : ℕ) → IsReady w → HasTotals w cells →
    b < length w.mesh.leaves → f < field_count w.settings → IsStage w cells b f
