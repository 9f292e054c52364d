-- For the code: the old leaves in whose place the leaves of a next tree stand.
use Rattle.std.specs.Prelude.{◌≡◌, ◌==◌, ℕ, ◌<◌, cond, Option, Some, None, List, length}
use Rattle.std.specs.List.{slice_index_or}
use Rattle.morton_order.specs.declared.space.Loc.{Loc}
use Rattle.morton_order.specs.Space.{child, parent, parts}
use Rattle.block_tree.specs.Blocks.{TreeOfBlocks, leaves}
use Rattle.block_tree.specs.Nodes.{number_in}
use Rattle.dense_remesh.specs.declared.origins.Origin.{Origin}
use Rattle.dense_remesh.specs.declared.origins.Origin.TheVariants.{Leaf, Parent, Children}

-- the number of the leaf that a location is a child of; a root is none's
abbrev pub parent_number : TreeOfBlocks → Loc → Option ℕ
parent_number t l = cond (l.level == 0) None (number_in (leaves t) (parent t.shape.dims l))

-- the numbers of those children of a location that are leaves
abbrev pub AreChildren : TreeOfBlocks → Loc → List (Option ℕ) → Type 0
AreChildren t l numbers = (j : ℕ) → j < parts t.shape.dims → slice_index_or numbers j None ≡ number_in (leaves t) (child t.shape.dims l j)

-- the parent of a location was a leaf, the location itself was none
pub record IsChildOf (t : TreeOfBlocks) (l : Loc) (leaf : ℕ) : Type 0 where
  pub new : number_in (leaves t) l ≡ None
  pub above : parent_number t l ≡ Some leaf

-- neither was; those of its children that were leaves
pub record IsParentOf (t : TreeOfBlocks) (l : Loc) (numbers : List (Option ℕ)) : Type 0 where
  pub new : number_in (leaves t) l ≡ None
  pub above : parent_number t l ≡ None
  pub below : AreChildren t l numbers

-- the old leaves in whose place a location stands
abbrev pub IsOrigin : TreeOfBlocks → Loc → Origin → Type 0
IsOrigin t l (Leaf leaf) = number_in (leaves t) l ≡ Some leaf
IsOrigin t l (Parent leaf) = IsChildOf t l leaf
IsOrigin t l (Children numbers) = IsParentOf t l numbers

-- and each of some locations
pub record AreOrigins (t : TreeOfBlocks) (places : List Loc) (origins : List Origin) : Type 0 where
  pub count : length origins ≡ length places
  pub each : (k : ℕ) (d : Loc) (e : Origin) → k < length places → IsOrigin t (slice_index_or places k d) (slice_index_or origins k e)
