-- A field on a mesh whose ghost zones are filled.
use Rattle.std.specs.Prelude.{ℕ, ◌<◌, List, length}
use Rattle.std.specs.List.{slice_index_or}
use Rattle.morton_order.specs.declared.space.Loc.{Loc}
use Rattle.problem_set.specs.Settings.{Settings}
use Rattle.problem_set.specs.SettingsOf.{settings_of}
use Rattle.block_tree.specs.Blocks.{leaves}
use Rattle.mesh_rules.specs.Mesh.{Mesh}
use Rattle.block_geometry.specs.Blocks.{FieldBlock}
use Rattle.block_geometry.specs.Contents.{HasInterior}
use Rattle.dense_mesh.specs.Meshes.{IsMeshIn, mesh_of}
use Rattle.dense_mesh.specs.Ghosts.{AreGhostLists, block_at, list_at}
use Rattle.dense_exchange.specs.declared.field_mesh.FieldMesh.{FieldMesh}

-- its settings, its mesh and how many leaves there are
abbrev pub settings_in : FieldMesh → Settings
settings_in e = settings_of e.problem.now

abbrev pub mesh_in : FieldMesh → Mesh
mesh_in e = mesh_of e.tree.now e.problem.now.cells e.lists.now

abbrev pub leaf_count : FieldMesh → ℕ
leaf_count e = length (leaves e.tree.now)

-- the leaf with a number, and the field on it
abbrev pub leaf_on : FieldMesh → ℕ → Loc
leaf_on e leaf = slice_index_or (leaves e.tree.now) leaf (record { level = 0; l1 = 0; l2 = 0; l3 = 0 })

abbrev pub block_on : FieldMesh → ℕ → FieldBlock
block_on e leaf = block_at (settings_in e) (mesh_in e) e.layout.now e.field (leaf_on e leaf)

-- the lists are a mesh of the problem, which has the field
pub record CanExchange (e : FieldMesh) : Type 0 where
  pub mesh : IsMeshIn (settings_in e) e.tree.now e.layout.now e.lists.now
  pub field : e.field < length e.problem.now.moves

-- a list with ghosts for each leaf, in which its own cells stand
pub record HoldOwn (e : FieldMesh) (ghosts : List (List ℕ)) : Type 0 where
  pub lists : AreGhostLists e.layout.now (leaf_count e) ghosts
  pub own : (leaf : ℕ) → leaf < leaf_count e → HasInterior (block_on e leaf) (list_at ghosts leaf)
