-- What lists of blocks with ghosts show of a field of a mesh.
use Rattle.std.specs.Prelude.{◌≡◌, ℕ, ◌<◌, ◌^◌, Some, List, [], All, length, slice_get}
use Rattle.std.specs.List.{slice_index_or}
use Rattle.morton_order.specs.declared.space.Loc.{Loc}
use Rattle.problem_set.specs.Settings.{Settings}
use Rattle.mesh_rules.specs.Mesh.{Mesh}
use Rattle.block_layout.specs.declared.layout.Layout.{Layout}
use Rattle.block_layout.specs.Layouts.{len}
use Rattle.block_geometry.specs.Blocks.{FieldBlock}
use Rattle.block_geometry.specs.Contents.{HasInterior, SeesAround}

-- a field on a leaf of a mesh
abbrev pub block_at : Settings → Mesh → Layout → ℕ → Loc → FieldBlock
block_at p m layout f l = record { settings = p; mesh = m; field = f; leaf = l; layout = layout }

-- the list of a leaf, by its number
abbrev pub list_at : List (List ℕ) → ℕ → List ℕ
list_at lists leaf = slice_index_or lists leaf []

-- a list for each of so many leaves, with a total below 2^62 for each cell of a block and its ghosts
pub record AreGhostLists (l : Layout) (leaves : ℕ) (lists : List (List ℕ)) : Type 0 where
  pub count : length lists ≡ leaves
  pub sizes : (leaf : ℕ) → leaf < leaves → length (list_at lists leaf) ≡ len l
  pub small : (leaf : ℕ) → leaf < leaves → All (λ total. total < 2 ^ 62) (list_at lists leaf)

-- each leaf's own cells stand in its list
abbrev pub HaveInteriors : Settings → Mesh → Layout → ℕ → List (List ℕ) → Type 0
HaveInteriors p m layout f lists = (leaf : ℕ) (l : Loc) → slice_get m.leaves leaf ≡ Some l → HasInterior (block_at p m layout f l) (list_at lists leaf)

-- and its ghosts have what the mesh shows there
pub record SeeMesh (p : Settings) (m : Mesh) (layout : Layout) (f : ℕ) (ghosts : List (List ℕ)) : Type 0 where
  pub lists : AreGhostLists layout (length m.leaves) ghosts
  pub own : HaveInteriors p m layout f ghosts
  pub around : (leaf : ℕ) (l : Loc) → slice_get m.leaves leaf ≡ Some l → SeesAround (block_at p m layout f l) (list_at ghosts leaf)
