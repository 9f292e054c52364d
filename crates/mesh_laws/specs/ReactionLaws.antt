-- What a reaction keeps, by any kernel.
use Rattle.std.specs.Prelude.{◌≡◌, ℕ, ◌+◌, ◌<◌, List}
use Rattle.package_fields.specs.Kernel.{KernelLaws, Reacted}
use Rattle.mesh_rules.specs.Sums.{sum_to}
use Rattle.mesh_rules.specs.Mesh.{IsMesh, Mesh, total_of}
use Rattle.mesh_rules.specs.Reaction.{made_of, react_mesh, used_of}

-- the sum over the fields is kept
abbrev pub ReactionKeepsSum : Type 0
ReactionKeepsSum = (react : List ℕ → Reacted) (fields : ℕ) (m : Mesh) → IsMesh m → KernelLaws fields react →
    sum_to fields (total_of (react_mesh react fields m)) ≡ sum_to fields (total_of m)

-- a field's total changes by what is made and used of it
abbrev pub ReactionBalances : Type 0
ReactionBalances = (react : List ℕ → Reacted) (fields f : ℕ) (m : Mesh) → IsMesh m → KernelLaws fields react → f < fields →
    total_of (react_mesh react fields m) f + used_of react fields m f ≡ total_of m f + made_of react fields m f
