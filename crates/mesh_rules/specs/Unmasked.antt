-- A cycle that knows of no mask: every field is on every block, and nothing is made zero.
use Rattle.std.specs.Prelude.{ℕ, zero, suc, List}
use Rattle.package_fields.specs.Kernel.{Reacted}
use Rattle.problem_set.specs.Settings.{Settings}
use Rattle.mesh_rules.specs.Mesh.{Mesh}
use Rattle.mesh_rules.specs.Fields.{field_count}
use Rattle.mesh_rules.specs.Stage.{stage}
use Rattle.mesh_rules.specs.Reaction.{react_mesh}
use Rattle.mesh_rules.specs.Mask.{Mask, kept_by_check, kept_by_exchange, kept_by_reaction}

-- the mesh after that many stages of the cycle
abbrev pub dense_staged : Settings → Mesh → ℕ → Mesh
dense_staged p m zero = m
dense_staged p m (suc n) = stage p (dense_staged p m n)

-- after all stages and the reaction
abbrev pub dense_reacted : Settings → (List ℕ → Reacted) → Mesh → Mesh
dense_reacted p react m = react_mesh react (field_count p) (dense_staged p m p.nstages)

-- which fields are allocated by then, reckoned over these meshes: after the exchanges of that many stages
abbrev pub dense_kept : Settings → Mesh → Mask → ℕ → Mask
dense_kept p m mask zero = mask
dense_kept p m mask (suc n) = kept_by_exchange p (dense_staged p m n) (dense_kept p m mask n)

-- after the reaction
abbrev pub dense_kept_reacted : Settings → (List ℕ → Reacted) → Mesh → Mask → Mask
dense_kept_reacted p react m mask = kept_by_reaction p (dense_reacted p react m) (dense_kept p m mask p.nstages)

-- after the check
abbrev pub dense_kept_checked : Settings → (List ℕ → Reacted) → Mesh → Mask → Mask
dense_kept_checked p react m mask = kept_by_check p (dense_reacted p react m) (dense_kept_reacted p react m mask)
