-- For the code: a field on the leaves of a mesh in lists.
use Rattle.std.specs.Prelude.{◌≡◌, ℕ, ◌<◌, ◌≤◌, ◌^◌, Bool, false, true, Some, List, slice_get, slice_index}
use Rattle.morton_order.specs.declared.space.Loc.{Loc}
use Rattle.morton_order.specs.Neighbours.{across}
use Rattle.block_tree.specs.Blocks.{TreeOfBlocks, is_inner_of, leaves}
use Rattle.problem_set.specs.Settings.{Settings}
use Rattle.problem_set.specs.declared.problem.Problem.{Problem}
use Rattle.problem_set.specs.SettingsOf.{settings_of}
use Rattle.mesh_rules.specs.Mesh.{IsMesh, Mesh, block_size, cell_at, stored}
use Rattle.mesh_rules.specs.Faces.{cell_across}
use Rattle.mesh_rules.specs.Stage.{loss, staged}
use Rattle.mesh_rules.specs.Sums.{table}
use Rattle.block_layout.specs.declared.layout.Layout.{Layout}
use Rattle.block_layout.specs.Indices.{IsWithin}
use Rattle.block_layout.specs.Faces.{face_extents, face_number}
use Rattle.block_geometry.specs.Blocks.{FieldBlock, IsAtSide, IsLayoutOf, cell_in}
use Rattle.block_geometry.specs.Contents.{HasOwnPairs, HasPair, HasPairs, is_finer_in, pair_of}
use Rattle.dense_mesh.specs.Meshes.{mesh_of}
use Rattle.dense_mesh.specs.Ghosts.{block_at, list_at}
use Rattle.dense_stage.specs.declared.face_lists.FaceLists.{FaceLists}

-- a field of a problem, on a mesh in lists by field and leaf
pub record FieldMesh : Type 0 where
  pub settings : Settings
  pub lists : List (List (List ℕ))
  pub field : ℕ

abbrev pub field_on : Problem → List (List (List ℕ)) → ℕ → FieldMesh
field_on p lists f = record { settings = settings_of p; lists = lists; field = f }

-- the mesh on a tree, and the field on a leaf of it
abbrev pub mesh_in : TreeOfBlocks → FieldMesh → Mesh
mesh_in t x = mesh_of t x.settings.cells x.lists

abbrev pub block_in : TreeOfBlocks → Layout → FieldMesh → Loc → FieldBlock
block_in t l x leaf = block_at x.settings (mesh_in t x) l x.field leaf

-- it is a mesh with the blocks of a layout
pub record IsSoundMesh (t : TreeOfBlocks) (l : Layout) (x : FieldMesh) : Type 0 where
  pub mesh : IsMesh (mesh_in t x)
  pub layout : IsLayoutOf (mesh_in t x) l

-- a fact of each leaf and its number
abbrev pub OnLeaves : TreeOfBlocks → (ℕ → Loc → Type 0) → Type 0
OnLeaves t P = (leaf : ℕ) (l : Loc) → slice_get (leaves t) leaf ≡ Some l → P leaf l

-- what passes each face of a block is below a bound
abbrev pub AreBelow : ℕ → Layout → List ℕ → Type 0
AreBelow bound l list = (axis : ℕ) (i : List ℕ) → axis < l.dims → IsWithin (face_extents l axis) i → slice_index list (face_number l axis i) < bound

-- the mesh's pairs at the faces of a block behind which no finer cells are stored are below 2^62
abbrev pub OwnPairsAreSmall : FieldBlock → Type 0
OwnPairsAreSmall b = (i : List ℕ) (axis : ℕ) (high : Bool) → axis < b.layout.dims → IsWithin b.layout.cells i → is_finer_in b.mesh (cell_across b.mesh (cell_in b.mesh b.leaf i) axis high) ≡ false →
    ((pair_of b i axis high).right < 2 ^ 62) × ((pair_of b i axis high).left < 2 ^ 62)

-- lists have these pairs
pub record HasOwn (b : FieldBlock) (right left : List ℕ) : Type 0 where
  pub pairs : HasOwnPairs b right left
  pub small : OwnPairsAreSmall b

-- so it is on each leaf, and so it is with the pairs at all faces
abbrev pub HaveOwn : TreeOfBlocks → Layout → FieldMesh → FaceLists → Type 0
HaveOwn t l x faces = OnLeaves t (λ leaf o. HasOwn (block_in t l x o) (list_at faces.right.items leaf) (list_at faces.left.items leaf))

abbrev pub HavePairs : TreeOfBlocks → Layout → FieldMesh → FaceLists → Type 0
HavePairs t l x faces = OnLeaves t (λ leaf o. HasPairs (block_in t l x o) (list_at faces.right.items leaf) (list_at faces.left.items leaf))

-- lists have the mesh's pairs at a side of a block
abbrev pub HasSidePairs : FieldBlock → ℕ → Bool → List ℕ → List ℕ → Type 0
HasSidePairs b axis high right left = (i : List ℕ) → IsWithin b.layout.cells i → IsAtSide b.layout axis high i → HasPair b.layout right left i axis high (pair_of b i axis high)

-- each face with the mesh's pair has it still
abbrev pub KeepsPairs : FieldBlock → List ℕ → List ℕ → List ℕ → List ℕ → Type 0
KeepsPairs b right left right' left' = (i : List ℕ) (axis : ℕ) (high : Bool) → axis < b.layout.dims → IsWithin b.layout.cells i →
    HasPair b.layout right left i axis high (pair_of b i axis high) → HasPair b.layout right' left' i axis high (pair_of b i axis high)

abbrev pub KeepPairs : TreeOfBlocks → Layout → FieldMesh → FaceLists → FaceLists → Type 0
KeepPairs t l x old new = OnLeaves t (λ leaf o. KeepsPairs (block_in t l x o) (list_at old.right.items leaf) (list_at old.left.items leaf) (list_at new.right.items leaf) (list_at new.left.items leaf))

-- each cell pays at most what it has, and is below 2^62 after the stage
pub record StaysSmall (b : FieldBlock) : Type 0 where
  pub pays : (i : List ℕ) → IsWithin b.layout.cells i → loss b.settings b.mesh b.field (cell_in b.mesh b.leaf i) ≤ stored b.mesh b.field (cell_in b.mesh b.leaf i)
  pub small : (i : List ℕ) → IsWithin b.layout.cells i → staged b.settings b.mesh b.field (cell_in b.mesh b.leaf i) < 2 ^ 62

-- no finer leaf stands across a side of a leaf
abbrev pub NoneFinerAt : TreeOfBlocks → Loc → ℕ → Bool → Type 0
NoneFinerAt t l axis high = (o : Loc) → across t.shape l axis high ≡ Some o → is_inner_of t o ≡ true → ⊥

-- nor across any side
abbrev pub NoneFiner : ℕ → TreeOfBlocks → Loc → Type 0
NoneFiner dims t l = (axis : ℕ) (high : Bool) → axis < dims → NoneFinerAt t l axis high

-- what a leaf has after the stage
abbrev pub staged_list : TreeOfBlocks → FieldMesh → Loc → List ℕ
staged_list t x o =
    table (block_size (mesh_in t x)) (λ place. staged x.settings (mesh_in t x) x.field (cell_at (mesh_in t x) o place))
