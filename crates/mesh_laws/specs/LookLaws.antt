-- What the look is on a mesh.
use Rattle.std.specs.Prelude.{◌≡◌, ℕ, zero, suc, false, IsTrue}
use Rattle.morton_order.specs.declared.space.Loc.{Loc}
use Rattle.morton_order.specs.Space.{child, child_number, parent, parts}
use Rattle.block_tree.specs.Tree.{is_node}
use Rattle.mesh_num.specs.Share.{share}
use Rattle.mesh_rules.specs.Sums.{sum_to}
use Rattle.mesh_rules.specs.Mesh.{IsMesh, Mesh, OnLeaf, block_of, is_inner, stored}
use Rattle.mesh_rules.specs.Look.{look}

-- a cell lies in a block that is no node: coarser cells are stored there
abbrev pub IsBelowLeaf : Mesh → Loc → Type 0
IsBelowLeaf m c = is_node m.shape (is_inner m) (block_of m c) ≡ false

-- the look by its recursive law: what is stored on a leaf, the sum over the children's looks where finer cells are stored,
-- the share of the parent's look where coarser ones are
pub record LooksRight (m : Mesh) (f : ℕ) (c : Loc) : Type 0 where
  pub at_leaf : OnLeaf m c → look m f c ≡ stored m f c
  pub finer : IsTrue (is_inner m (block_of m c)) → look m f c ≡ sum_to (parts m.shape.dims) (λ j. look m f (child m.shape.dims c j))
  pub coarser : IsBelowLeaf m c → look m f c ≡ share (look m f (parent m.shape.dims c)) (parts m.shape.dims) (child_number m.shape.dims c)

-- the look is right on every mesh, for each field and in each cell
abbrev pub LookLaw : Type 0
LookLaw = (m : Mesh) (f : ℕ) (c : Loc) → IsMesh m → LooksRight m f c

-- the sum of what the cells that many levels below a cell give
abbrev pub sum_below : ℕ → ℕ → (Loc → ℕ) → Loc → ℕ
sum_below zero dims each c = each c
sum_below (suc levels) dims each c = sum_to (parts dims) (λ j. sum_below levels dims each (child dims c j))

-- the looks that many levels below a cell add up to its look: 11 that is stored in a cell is seen two levels below as 3 3 3 2
abbrev pub LooksAddUp : Type 0
LooksAddUp = (m : Mesh) (f levels : ℕ) (c : Loc) → IsMesh m → sum_below levels m.shape.dims (look m f) c ≡ look m f c
