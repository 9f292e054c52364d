-- What cycles and runs are at zero thresholds: those that know of no mask.
use Rattle.std.specs.Prelude.{◌≡◌, ℕ, zero, suc, ◌<◌, ◌≤◌, Bool, cond, ◌||◌, not, nat_le, List, length, replicate}
use Rattle.block_tree.specs.Leaves.{leaves_of}
use Rattle.package_fields.specs.Kernel.{KernelLaws, Reacted}
use Rattle.problem_set.specs.Settings.{Settings}
use Rattle.problem_set.specs.declared.problem.Problem.{Problem}
use Rattle.problem_set.specs.SettingsOf.{settings_of}
use Rattle.mesh_rules.specs.Mesh.{Mesh}
use Rattle.mesh_rules.specs.Fields.{field_count}
use Rattle.mesh_rules.specs.Tags.{counters_after, tags_after}
use Rattle.mesh_rules.specs.Remesh.{carried_counters, next_tree, remap}
use Rattle.mesh_rules.specs.Cycle.{State, checked, drop_of, reacted_to, staged_to}
use Rattle.mesh_rules.specs.Unmasked.{dense_kept, dense_kept_checked, dense_kept_reacted, dense_reacted, dense_staged}
use Rattle.mesh_rules.specs.Opening.{opening_mesh}
use Rattle.mesh_rules.specs.Run.{Reached, last_drop, leaf_limit, remeshes_at, run, running, too_many_at}
use Rattle.mesh_rules.specs.Fit.{IsMaskOf, IsMeshOf}

-- a field is allocated as soon as there is any of it, and freed only where there is none
pub record HasZeroThresholds (p : Settings) : Type 0 where
  pub alloc : p.alloc_threshold ≡ 0
  pub dealloc : p.dealloc_threshold ≡ 0

-- after each stage, after the reaction and after the check the mesh is that of the cycle in which every field is on every block,
-- and what is kept follows from those meshes; and nothing is dropped
pub record IsUnmasked (p : Settings) (react : List ℕ → Reacted) (s : State) : Type 0 where
  pub stage_meshes : (n : ℕ) → (staged_to p s n).mesh ≡ dense_staged p s.mesh n
  pub stage_masks : (n : ℕ) → (staged_to p s n).mask ≡ dense_kept p s.mesh s.mask n
  pub reacted_mesh : (reacted_to p react s).mesh ≡ dense_reacted p react s.mesh
  pub reacted_mask : (reacted_to p react s).mask ≡ dense_kept_reacted p react s.mesh s.mask
  pub checked_mesh : (checked p react s).mesh ≡ dense_reacted p react s.mesh
  pub checked_mask : (checked p react s).mask ≡ dense_kept_checked p react s.mesh s.mask
  pub drops : (f : ℕ) → f < field_count p → drop_of p react s f ≡ 0

-- at zero thresholds each cycle from a mesh of a problem and a mask that fits it is such, with any kernel
abbrev pub ZeroThresholdsAreUnmasked : Type 0
ZeroThresholdsAreUnmasked = (p : Problem) (react : List ℕ → Reacted) (s : State) → HasZeroThresholds (settings_of p) → IsMeshOf (settings_of p) s.mesh → IsMaskOf (settings_of p) s.mesh s.mask →
    IsUnmasked (settings_of p) react s

-- where a run that knows of no mask stands: its mesh, and how often in a row each leaf has wished to derefine
pub record DenseState : Type 0 where
  pub mesh : Mesh
  pub counters : List ℕ

-- after one more cycle, by its number: on the next tree where the tree may change, else on the same one
abbrev pub dense_cycled : Settings → (List ℕ → Reacted) → ℕ → DenseState → DenseState
dense_cycled p react cycle s =
    let m = dense_reacted p react s.mesh in
    let counters = counters_after p m s.counters in
    let next = next_tree p s.mesh (tags_after p m s.counters) in
    cond (remeshes_at p cycle)
    (record { mesh = remap m (field_count p) next; counters = carried_counters m counters (leaves_of m.shape next) })
    (record { mesh = m; counters = counters })

-- after that many cycles from the opening, were there room for every tree
unfoldable pub dense_run : Settings → (List ℕ → Reacted) → ℕ → DenseState
dense_run p react zero = record { mesh = opening_mesh p; counters = replicate (length (opening_mesh p).leaves) 0 }
dense_run p react (suc n) = dense_cycled p react (suc n) (dense_run p react n)

-- a run stands where that one does, and nothing was dropped in its last cycle
pub record IsDenseRun (p : Settings) (react : List ℕ → Reacted) (cycle : ℕ) (r : Reached) : Type 0 where
  pub mesh : r.state.mesh ≡ (dense_run p react cycle).mesh
  pub counters : r.state.counters ≡ (dense_run p react cycle).counters
  pub drops : (f : ℕ) → f < field_count p → last_drop r f ≡ 0

-- at zero thresholds each run of a problem is such after each cycle, remeshing included
abbrev pub ZeroThresholdRunsAreDense : Type 0
ZeroThresholdRunsAreDense = (p : Problem) (react : List ℕ → Reacted) (cycle : ℕ) (r : Reached) → HasZeroThresholds (settings_of p) → KernelLaws (field_count (settings_of p)) react → cycle ≤ p.nlim →
    run (settings_of p) react cycle ≡ running r → IsDenseRun (settings_of p) react cycle r

-- how many leaves the tree has that the tags of a cycle from such a state ask for, and whether the run goes on after that cycle
abbrev pub dense_leaves : Settings → (List ℕ → Reacted) → DenseState → ℕ
dense_leaves p react s = length (leaves_of s.mesh.shape (next_tree p s.mesh (tags_after p (dense_reacted p react s.mesh) s.counters)))

abbrev pub dense_has_room : Settings → (List ℕ → Reacted) → ℕ → DenseState → Bool
dense_has_room p react cycle s = not (remeshes_at p cycle) || nat_le (dense_leaves p react s) leaf_limit

-- and it stops exactly where that one has too many leaves, with their number
abbrev pub ZeroThresholdRunsStopAlike : Type 0
ZeroThresholdRunsStopAlike = (p : Problem) (react : List ℕ → Reacted) (cycle : ℕ) (r : Reached) → HasZeroThresholds (settings_of p) → KernelLaws (field_count (settings_of p)) react → cycle < p.nlim →
    run (settings_of p) react cycle ≡ running r →
    (after : Reached) × (run (settings_of p) react (suc cycle) ≡ cond (dense_has_room (settings_of p) react (suc cycle) (dense_run (settings_of p) react cycle))
    (running after) (too_many_at (suc cycle) (dense_leaves (settings_of p) react (dense_run (settings_of p) react cycle))))
