-- For the code: what a stage has made of the first fields.
use Rattle.std.specs.Prelude.{◌≡◌, ℕ, map}
use Rattle.problem_set.specs.Settings.{Settings}
use Rattle.mesh_rules.specs.Sums.{table}
use Rattle.mesh_rules.specs.Mesh.{Mesh}
use Rattle.mesh_rules.specs.Mask.{exchange_calls}
use Rattle.mesh_rules.specs.Stage.{inflow_of, outflow_of, staged}
use Rattle.dense_mesh.specs.Meshes.{field_lists}
use Rattle.dense_cycle.specs.declared.fields.DomainFlow.{DomainFlow}
use Rattle.dense_cycle.specs.declared.fields.StagedFields.{StagedFields}

-- what passes the faces of the domain of a field in a stage
abbrev pub passed_of : Settings → Mesh → ℕ → DomainFlow
passed_of p m f = record { inflow = inflow_of p m f; outflow = outflow_of p m f }

-- their lists, which leaves their exchange calls for, and what passes the faces of the domain
pub record HasFields (p : Settings) (m : Mesh) (n : ℕ) (s : StagedFields) : Type 0 where
  pub lists : s.lists.items ≡ field_lists m n (staged p m)
  pub calls : s.calls.items ≡ table n (λ f. map (exchange_calls p m f) m.leaves)
  pub passed : s.passed.items ≡ table n (passed_of p m)
