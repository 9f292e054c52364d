-- For the code: flows that have what a kernel made and used on a whole mesh.
use Rattle.std.specs.Prelude.{◌≡◌, ℕ, ◌<◌, List, length}
use Rattle.std.specs.List.{slice_index_or}
use Rattle.package_fields.specs.declared.flow.Flow.{Flow}
use Rattle.package_fields.specs.Flow.{no_flow}
use Rattle.package_fields.specs.Kernel.{Reacted, with_parts}
use Rattle.mesh_rules.specs.Mesh.{Mesh}
use Rattle.mesh_rules.specs.Reaction.{made_of, used_of}

pub record HaveFlowed (react : List ℕ → Reacted) (fields : ℕ) (m : Mesh) (flows : List Flow) : Type 0 where
  pub many : length flows ≡ fields
  pub gained : (f : ℕ) → f < fields → slice_index_or flows f no_flow ≡ with_parts no_flow (made_of react fields m f) (used_of react fields m f)
