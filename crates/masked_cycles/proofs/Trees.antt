-- The meshes of a cycle have one tree, and so the same kernels.
use Rattle.std.proofs.Common.{◌≡◌, ℕ, zero, suc, ◌<◌, cond, List, length, refl, ap, subst, sym, ◌∙◌, slice_index}
use Rattle.morton_order.specs.declared.space.Loc.{Loc}
use Rattle.package_fields.specs.Kernel.{Reacted}
use Rattle.problem_set.specs.Settings.{Settings}
use Rattle.problem_set.specs.SettingsOf.{settings_of}
use Rattle.mesh_rules.specs.Mesh.{IsMesh, Mesh, block_of, block_size, filled, stored, totals_on}
use Rattle.mesh_rules.specs.Fields.{field_count}
use Rattle.mesh_rules.specs.Cycle.{State, reacted_to, staged_to}
use Rattle.mesh_rules.specs.Mask.{Mask, kept_by_exchange, kept_by_reaction, stays}
use Rattle.mesh_rules.specs.Reaction.{react_mesh, reacted_cell}
use Rattle.mesh_rules.specs.Stage.{stage, staged}
use Rattle.block_geometry.specs.Blocks.{IsLayoutOf}
use Rattle.run_laws.proofs.CycleMeshes.{on_staged}
use Rattle.sparse_rounds.specs.Kernels.{AreKernels}
use Rattle.cycle_kernels.specs.Blocks.{CycleMesh}
use Rattle.cycle_kernels.specs.Kernels.{kernels_of}
use Rattle.cycle_kernels.specs.Laws.{IsCycleMesh}
use Rattle.cycle_kernel_laws.proofs.Kernels.{are_kernels}
use Rattle.kernel_stages.specs.Stages.{IsReady}
use Rattle.masked_cycles.specs.Cycles.{Cycle, IsCycle, cycle_mesh, kernels}
use Rattle.masked_cycles.proofs.Retold.{retold_kernels}
use Rattle.masked_cycles.proofs.Cuts.{cut_long}

-- a mesh is another one but for its totals
abbrev pub SameTree : Mesh → Mesh → Type 0
SameTree first m = m ≡ record first { totals = m.totals }

pub same_filled : (first m : Mesh) (fields : ℕ) (each : ℕ → Loc → ℕ) → SameTree first m → SameTree first (filled m fields each)
same_filled first m fields each e = ap (λ (v : Mesh). record v { totals = (filled m fields each).totals }) e

pub same_staged : (p : Settings) (s : State) (n : ℕ) → SameTree s.mesh (staged_to p s n).mesh
same_staged p s zero = refl
same_staged p s (suc n) =
    let h = staged_to p s n in
    let m = stage p h.mesh in
    let mask : Mask = kept_by_exchange p h.mesh h.mask in
    same_filled s.mesh m (field_count p) (λ f c. cond (stays p m mask f (block_of m c)) (stored m f c) 0)
    (same_filled s.mesh h.mesh (field_count p) (staged p h.mesh) (same_staged p s n))

pub same_reacting : (p : Settings) (react : List ℕ → Reacted) (s : State) → SameTree s.mesh (react_mesh react (field_count p) (staged_to p s p.nstages).mesh)
same_reacting p react s =
    let h = staged_to p s p.nstages in
    same_filled s.mesh h.mesh (field_count p) (λ f c. slice_index (reacted_cell react (field_count p) h.mesh c).totals f) (same_staged p s p.nstages)

pub same_reacted : (p : Settings) (react : List ℕ → Reacted) (s : State) → SameTree s.mesh (reacted_to p react s).mesh
same_reacted p react s =
    let h = staged_to p s p.nstages in
    let m = react_mesh react (field_count p) h.mesh in
    let mask : Mask = kept_by_reaction p m h.mask in
    same_filled s.mesh m (field_count p) (λ f c. cond (stays p m mask f (block_of m c)) (stored m f c) 0) (same_reacting p react s)

-- the kernels of a cycle on another mesh of its tree
abbrev pub mesh_with : Cycle → Mesh → CycleMesh
mesh_with c m = record (cycle_mesh c) { mesh = m }

pub kernels_same : (c : Cycle) (m : Mesh) → SameTree c.state.mesh m → kernels_of (mesh_with c m) ≡ kernels c
kernels_same c m e = ap (λ (v : Mesh). kernels_of (mesh_with c v)) e ∙ retold_kernels (cycle_mesh c) m.totals

-- each mesh of a cycle is ready for a stage
totals_long : (c : Cycle) (n b f : ℕ) → IsCycle c → b < length c.state.mesh.leaves → f < field_count (settings_of c.problem) →
    length (totals_on (staged_to (settings_of c.problem) c.state n).mesh b f) ≡ block_size (staged_to (settings_of c.problem) c.state n).mesh
totals_long c zero b f is few some = is.fit.mesh.cell_lists b f few some
totals_long c (suc n) b f is few some =
    let p = settings_of c.problem in
    let h = staged_to p c.state n in
    let m = stage p h.mesh in
    let mask : Mask = kept_by_exchange p h.mesh h.mask in
    cut_long m (field_count p) b f (λ f c. cond (stays p m mask f (block_of m c)) (stored m f c) 0) some (subst (λ (v : List Loc). b < length v) (sym (on_staged p c.state is.fit.mesh n).leaves) few)

pub layout_on : (c : Cycle) (m : Mesh) → IsCycle c → SameTree c.state.mesh m → IsLayoutOf m c.layout
layout_on c m is e = subst (λ (v : Mesh). IsLayoutOf v c.layout) (sym e) (record { dims = is.layout.dims; cells = is.layout.cells })

-- and is the mesh of a cycle
pub is_cycle_mesh : (c : Cycle) (m : Mesh) → IsCycle c → IsMesh m → SameTree c.state.mesh m → IsCycleMesh (mesh_with c m)
is_cycle_mesh c m is mesh e = record {
  mesh = mesh;
  layout = layout_on c m is e;
  denominator = c.problem.stepping_sound.cycle_sound.least_denominator;
  packs = c.problem.refining_sound.least_pack;
  fields = c.problem.fields_sound;
}

pub staged_ready : (c : Cycle) (n : ℕ) → IsCycle c → IsReady (mesh_with c (staged_to (settings_of c.problem) c.state n).mesh)
staged_ready c n is =
    let p = settings_of c.problem in
    let on = on_staged p c.state is.fit.mesh n in
    record {
      cycle = is_cycle_mesh c (staged_to p c.state n).mesh is on.mesh (same_staged p c.state n);
      lists = λ b f few some. totals_long c n b f is (subst (λ (v : List Loc). b < length v) on.leaves few) some;
    }

-- so the kernels meet what the machine asks
pub laws_of : (c : Cycle) → IsCycle c → AreKernels (kernels c)
laws_of c is = are_kernels (cycle_mesh c) (is_cycle_mesh c c.state.mesh is is.fit.mesh.mesh refl)
