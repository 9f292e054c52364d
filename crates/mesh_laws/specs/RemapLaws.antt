-- What a remap keeps.
use Rattle.std.specs.Prelude.{◌≡◌, ℕ, ◌<◌, Bool}
use Rattle.morton_order.specs.declared.space.Loc.{Loc}
use Rattle.block_tree.specs.Tree.{IsBalanced, IsTree}
use Rattle.mesh_rules.specs.Mesh.{IsMesh, Mesh, is_inner, total_of}
use Rattle.mesh_rules.specs.Remesh.{remap}

-- on any tree of the same lattice a field's total is what it was
abbrev pub RemapKeepsTotals : Type 0
RemapKeepsTotals = (m : Mesh) (fields f : ℕ) (inner : Loc → Bool) → IsMesh m → IsTree m.shape inner → f < fields → total_of (remap m fields inner) f ≡ total_of m f

-- a mesh on the tree of a test
pub record IsRemapped (m : Mesh) (fields : ℕ) (inner : Loc → Bool) : Type 0 where
  pub mesh : IsMesh (remap m fields inner)
  pub nodes : (l : Loc) → is_inner (remap m fields inner) l ≡ inner l

-- on a balanced tree of the same lattice it is a mesh, whose inner nodes are those of the tree
abbrev pub RemapIsMesh : Type 0
RemapIsMesh = (m : Mesh) (fields : ℕ) (inner : Loc → Bool) → IsMesh m → IsTree m.shape inner → IsBalanced m.shape inner → IsRemapped m fields inner
