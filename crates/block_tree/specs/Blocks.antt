-- What contracts see of a tree of blocks, and what each tree keeps.
use Rattle.std.specs.Prelude.{◌≡◌, ◌<◌, ◌≤◌, Bool, List, length}
use Rattle.morton_order.specs.declared.space.Loc.{Loc}
use Rattle.morton_order.specs.declared.space.Shape.{Shape}
use Rattle.morton_order.specs.Space.{IsShape}
use Rattle.block_tree.specs.declared.fault.TreeFault.{TreeFault}
use Rattle.block_tree.specs.declared.fault.TreeFault.TheVariants.{TooManyAtStart, TooManyBlocks, NoMemory}
use Rattle.block_tree.specs.Tree.{IsBalanced, IsTree, is_listed}
use Rattle.block_tree.specs.Leaves.{inner_of, leaves_of}

-- a tree of blocks: its lattice of roots, and its inner nodes, each before its children
pub record TreeOfBlocks : Type 0 where
  pub shape : Shape
  pub inner : List Loc

-- the tree with some inner nodes
abbrev pub tree_with : Shape → (Loc → Bool) → TreeOfBlocks
tree_with s inner = record { shape = s; inner = inner_of s inner }

-- whether a location is an inner node
abbrev pub is_inner_of : TreeOfBlocks → Loc → Bool
is_inner_of t = is_listed t.inner

-- the leaves of a tree, by their numbers: by rising key
abbrev pub leaves : TreeOfBlocks → List Loc
leaves t = leaves_of t.shape (is_listed t.inner)

-- what each tree keeps: it is closed under parent and balanced, its inner nodes stand in order, and it has at most 65,536 leaves
pub record IsBlockTree (t : TreeOfBlocks) : Type 0 where
  pub shape : IsShape t.shape
  pub tree : IsTree t.shape (is_listed t.inner)
  pub balanced : IsBalanced t.shape (is_listed t.inner)
  pub order : t.inner ≡ inner_of t.shape (is_listed t.inner)
  pub few : length (leaves t) ≤ 65536

-- a tree is refused for its leaves where they are more than 65,536, with their number
abbrev pub RefusedByCount : Shape → (Loc → Bool) → TreeFault → Type 0
RefusedByCount s inner TooManyAtStart = ⊥
RefusedByCount s inner (TooManyBlocks count) = (count ≡ length (leaves_of s inner)) × (65536 < count)
RefusedByCount s inner NoMemory = Unit {0}

-- an opening tree is refused where its leaves are more than 65,536
abbrev pub RefusedAtStart : Shape → (Loc → Bool) → TreeFault → Type 0
RefusedAtStart s inner TooManyAtStart = 65536 < length (leaves_of s inner)
RefusedAtStart s inner (TooManyBlocks count) = ⊥
RefusedAtStart s inner NoMemory = Unit {0}
