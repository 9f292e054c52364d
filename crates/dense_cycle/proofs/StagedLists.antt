-- Lists of the totals after a stage, and the premises of the next one.
use Rattle.std.proofs.Common.{◌≡◌, ◌∙◌, ℕ, ◌-◌, ◌<◌, ◌≤◌, ◌^◌, List, ap, subst, sym}
use Rattle.block_tree.specs.Blocks.{TreeOfBlocks}
use Rattle.problem_set.specs.Settings.{Settings}
use Rattle.problem_set.specs.declared.problem.Problem.{Problem}
use Rattle.problem_set.specs.SettingsOf.{settings_of}
use Rattle.mesh_rules.specs.Mesh.{Mesh}
use Rattle.mesh_rules.specs.Fields.{field_count}
use Rattle.mesh_rules.specs.Stage.{stage, staged}
use Rattle.mesh_rules.specs.Cycle.{Held, State, staged_to}
use Rattle.mesh_rules.specs.Fit.{IsFit, sum_of_all}
use Rattle.block_layout.specs.declared.layout.Layout.{Layout}
use Rattle.dense_mesh.specs.Meshes.{CanStage, IsMeshIn, field_lists, mesh_of}
use Rattle.dense_cycle.specs.declared.state.DenseHeld.{DenseHeld}
use Rattle.dense_cycle.specs.Held.{IsHeldIn, held_of}
use Rattle.dense_cycle.proofs.Bounds.{stage_room}
use Rattle.dense_cycle.proofs.Lists.{filled_in}

-- they are the mesh after the stage
pub record StagedLists (q : Settings) (t : TreeOfBlocks) (l : Layout) (lists new : List (List (List ℕ))) : Type 0 where
  pub mesh : mesh_of t q.cells new ≡ stage q (mesh_of t q.cells lists)
  pub is_mesh : IsMeshIn q t l new

pub staged_lists : (q : Settings) (t : TreeOfBlocks) (l : Layout) (lists seen new : List (List (List ℕ))) → CanStage q t l lists → seen ≡ lists
    → new ≡ field_lists (mesh_of t q.cells seen) (field_count q) (staged q (mesh_of t q.cells seen)) → StagedLists q t l lists new
staged_lists q t l lists seen new can same is =
    let m : Mesh = mesh_of t q.cells lists in
    let filled = filled_in q t l lists new (staged q m) can.now (is ∙ ap (λ (v : List (List (List ℕ))). field_lists (mesh_of t q.cells v) (field_count q) (staged q (mesh_of t q.cells v))) same) in
    record { mesh = filled.mesh; is_mesh = filled.fits can.next }

-- a mesh of a cycle can be staged while there are stages to come
pub can_stage : (p : Problem) (t : TreeOfBlocks) (l : Layout) (s : State) (h : DenseHeld) (n : ℕ) → IsFit (settings_of p) s → IsHeldIn (settings_of p) t l h → held_of t p.cells h ≡ staged_to (settings_of p) s n → n < p.nstages
    → CanStage (settings_of p) t l h.lists
can_stage p t l s h n fit kept is more = record {
  now = kept.lists;
  next = subst (λ (x : Held). sum_of_all (settings_of p) (stage (settings_of p) x.mesh) ≤ 2 ^ 62 - 1) (sym is) (stage_room p s fit n more);
}
