-- The meshes of a cycle stand on the tree with which it starts.
use Rattle.std.proofs.Common.{◌≡◌, ℕ, zero, suc, ◌-◌, cond, List, slice_index, refl, arith}
use Rattle.morton_order.specs.declared.space.Loc.{Loc}
use Rattle.package_fields.specs.Kernel.{Reacted}
use Rattle.problem_set.specs.Settings.{Settings}
use Rattle.mesh_rules.specs.Mesh.{IsMesh, Mesh, block_of, filled, stored}
use Rattle.mesh_rules.specs.Fields.{field_count}
use Rattle.mesh_rules.specs.Stage.{stage, staged}
use Rattle.mesh_rules.specs.Reaction.{react_mesh, reacted_cell}
use Rattle.mesh_rules.specs.Mask.{Mask, cut, kept_by_check, kept_by_exchange, kept_by_reaction, stays}
use Rattle.mesh_rules.specs.Cycle.{State, checked, reacted_to, staged_to}
use Rattle.mesh_rules.specs.Fit.{IsMeshOf}
use Rattle.mesh_laws.specs.PayLaws.{IsNoFiner}

-- a mesh stands on the tree of another one, and no leaf is finer than the problem allows
pub record OnTreeOf (p : Settings) (first m : Mesh) : Type 0 where
  pub mesh : IsMesh m
  pub coarse : IsNoFiner m (p.levels - 1)
  pub shape : m.shape ≡ p.shape
  pub inner : m.inner ≡ first.inner
  pub leaves : m.leaves ≡ first.leaves
  pub cells : m.cells ≡ first.cells

-- filled anew, it stands there still
pub on_filled : (p : Settings) (first m : Mesh) (fields : ℕ) (each : ℕ → Loc → ℕ) → OnTreeOf p first m → OnTreeOf p first (filled m fields each)
on_filled p first m fields each on = record {
  mesh = record { shape = on.mesh.shape; some_cells = on.mesh.some_cells; tree = on.mesh.tree; balanced = on.mesh.balanced; leaves = on.mesh.leaves };
  coarse = on.coarse;
  shape = on.shape;
  inner = on.inner;
  leaves = on.leaves;
  cells = on.cells;
}

pub on_start : (p : Settings) (m : Mesh) → IsMeshOf p m → OnTreeOf p m m
on_start p m of = record {
  mesh = of.mesh;
  coarse = λ l inner. let h = of.coarse l inner in omega arith;
  shape = of.shape;
  inner = refl;
  leaves = refl;
  cells = refl;
}

-- after a stage, after a reaction, and where some of it was made zero
pub on_stage : (p : Settings) (first m : Mesh) → OnTreeOf p first m → OnTreeOf p first (stage p m)
on_stage p first m on = on_filled p first m (field_count p) (staged p m) on

pub on_cut : (p : Settings) (mask : Mask) (first m : Mesh) → OnTreeOf p first m → OnTreeOf p first (cut p mask m)
on_cut p mask first m on = on_filled p first m (field_count p) (λ f c. cond (stays p m mask f (block_of m c)) (stored m f c) 0) on

pub on_reaction : (p : Settings) (react : List ℕ → Reacted) (first m : Mesh) → OnTreeOf p first m → OnTreeOf p first (react_mesh react (field_count p) m)
on_reaction p react first m on = on_filled p first m (field_count p) (λ f c. slice_index (reacted_cell react (field_count p) m c).totals f) on

-- the meshes after some stages, after the reaction, and after the check
pub on_staged : (p : Settings) (s : State) → IsMeshOf p s.mesh → (n : ℕ) → OnTreeOf p s.mesh (staged_to p s n).mesh
on_staged p s of zero = on_start p s.mesh of
on_staged p s of (suc n) =
    let h = staged_to p s n in
    on_cut p (kept_by_exchange p h.mesh h.mask) s.mesh (stage p h.mesh) (on_stage p s.mesh h.mesh (on_staged p s of n))

pub on_reacting : (p : Settings) (react : List ℕ → Reacted) (s : State) → IsMeshOf p s.mesh → OnTreeOf p s.mesh (react_mesh react (field_count p) (staged_to p s p.nstages).mesh)
on_reacting p react s of = on_reaction p react s.mesh (staged_to p s p.nstages).mesh (on_staged p s of p.nstages)

pub on_reacted : (p : Settings) (react : List ℕ → Reacted) (s : State) → IsMeshOf p s.mesh → OnTreeOf p s.mesh (reacted_to p react s).mesh
on_reacted p react s of =
    let h = staged_to p s p.nstages in
    let m = react_mesh react (field_count p) h.mesh in
    on_cut p (kept_by_reaction p m h.mask) s.mesh m (on_reacting p react s of)

pub on_checked : (p : Settings) (react : List ℕ → Reacted) (s : State) → IsMeshOf p s.mesh → OnTreeOf p s.mesh (checked p react s).mesh
on_checked p react s of =
    let h = reacted_to p react s in
    on_cut p (kept_by_check p h.mesh h.mask) s.mesh h.mesh (on_reacted p react s of)
