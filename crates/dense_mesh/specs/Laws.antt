-- What holds of meshes in lists.
use Rattle.std.specs.Prelude.{◌≡◌, ℕ, ◌<◌, List, length}
use Rattle.morton_order.specs.declared.space.Loc.{Loc}
use Rattle.block_tree.specs.Blocks.{TreeOfBlocks, leaves}
use Rattle.mesh_rules.specs.Mesh.{filled, totals_on}
use Rattle.dense_mesh.specs.Meshes.{field_lists, mesh_of, totals_in}

-- a mesh in lists has in its totals what the lists have
abbrev pub ListsAreTotals : Type 0
ListsAreTotals = (t : TreeOfBlocks) (cells : List ℕ) (lists : List (List (List ℕ))) (leaf f : ℕ) → leaf < length (leaves t) → f < length lists →
    totals_on (mesh_of t cells lists) leaf f ≡ totals_in lists f leaf

-- with lists of what each cell gives it is the mesh that is filled so
abbrev pub FieldListsAreMeshes : Type 0
FieldListsAreMeshes = (t : TreeOfBlocks) (cells : List ℕ) (lists : List (List (List ℕ))) (fields : ℕ) (each : ℕ → Loc → ℕ) →
    mesh_of t cells (field_lists (mesh_of t cells lists) fields each) ≡ filled (mesh_of t cells lists) fields each
