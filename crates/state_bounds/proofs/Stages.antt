-- The mesh of a stage, as lists by block hold it.
use Rattle.std.proofs.Common.{◌≡◌, ℕ, ◌-◌, ◌<◌, ◌≤◌, List, length, subst, sym}
use Rattle.morton_order.specs.declared.space.Loc.{Loc}
use Rattle.problem_set.specs.SettingsOf.{settings_of}
use Rattle.mesh_rules.specs.declared.wish.Wish.{Wish}
use Rattle.mesh_rules.specs.Due.{Exchange}
use Rattle.mesh_rules.specs.Fields.{field_count}
use Rattle.run_laws.proofs.CycleMeshes.{on_staged}
use Rattle.run_laws.proofs.CycleTotals.{rates_fit}
use Rattle.sparse_rounds.specs.Kernels.{Kernels}
use Rattle.sparse_rounds.specs.Masked.{run_at}
use Rattle.cycle_kernels.specs.Blocks.{CycleMesh}
use Rattle.cycle_kernels.specs.Kernels.{kernels_of}
use Rattle.cycle_kernels.specs.Pairs.{FacePairs}
use Rattle.cycle_kernel_bounds.specs.Bounds.{HoldBounded}
use Rattle.kernel_stages.specs.Stages.{HasTotals}
use Rattle.kernel_stages.proofs.Senders.{hold_mesh}
use Rattle.kernel_stages.proofs.Stages.{sound_of}
use Rattle.masked_cycles.specs.Cycles.{Cycle, IsCycle, kernels, start_of}
use Rattle.masked_cycles.specs.States.{mesh_of_stage}
use Rattle.masked_cycles.proofs.Staging.{stages_agree}
use Rattle.masked_cycles.proofs.Trees.{kernels_same, mesh_with, same_staged, staged_ready}
use Rattle.state_bounds.proofs.Totals.{field_before}

abbrev pub MeshKernels : Type 0
MeshKernels = Kernels Exchange (List ℕ) (List ℕ) FacePairs (List ℕ) Wish

-- the mesh of a cycle in a stage, and the totals of a field by block that the run has then
abbrev pub in_stage : Cycle → ℕ → CycleMesh
in_stage c n = mesh_with c (mesh_of_stage c n)

abbrev pub totals_then : Cycle → ℕ → ℕ → ℕ → List ℕ
totals_then c n = (run_at (kernels c) (start_of c) n).mesh

pub same_leaves : (c : Cycle) (n : ℕ) → IsCycle c → (mesh_of_stage c n).leaves ≡ c.state.mesh.leaves
same_leaves c n is = (on_staged (settings_of c.problem) c.state is.fit.mesh n).leaves

pub few_then : (c : Cycle) (n b : ℕ) → IsCycle c → b < length c.state.mesh.leaves → b < length (mesh_of_stage c n).leaves
few_then c n b is few = subst (λ (v : List Loc). b < length v) (sym (same_leaves c n is)) few

pub kernels_then : (c : Cycle) (n : ℕ) → kernels_of (in_stage c n) ≡ kernels c
kernels_then c n = kernels_same c (mesh_of_stage c n) (same_staged (settings_of c.problem) c.state n)

have_totals : (c : Cycle) (n : ℕ) → IsCycle c → HasTotals (in_stage c n) (totals_then c n)
have_totals c n is b f few some =
    (stages_agree c n b f is (record { block = subst (λ (v : List Loc). b < length v) (same_leaves c n is) few; field = some })).holds.totals

-- they hold the field, and its totals are bounded
pub hold_bounded : (c : Cycle) (n f : ℕ) → IsCycle c → n ≤ c.problem.nstages → f < field_count (settings_of c.problem) →
    HoldBounded (in_stage c n) (mesh_of_stage c n).totals f (λ b. totals_then c n b f)
hold_bounded c n f is most some =
    let p = c.problem in
    let on = on_staged (settings_of p) c.state is.fit.mesh n in
    let ready = staged_ready c n is in
    record {
      cycle = ready.cycle;
      held = hold_mesh (in_stage c n) (totals_then c n) f (sound_of (in_stage c n) ready) (have_totals c n is) some;
      bounded = record {
        small = field_before c n f is most some;
        finest = p.levels - 1;
        coarse = on.coarse;
        rates = rates_fit p f (mesh_of_stage c n).shape on.shape some;
      };
    }
