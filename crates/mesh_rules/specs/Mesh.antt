-- A mesh: a tree with the totals of every field in every cell of every leaf.
use Rattle.std.specs.Prelude.{◌≡◌, ℕ, ◌+◌, ◌*◌, ◌/◌, ◌%◌, ◌<◌, ◌≤◌, Bool, List, [], ◌∷◌, map, slice_index}
use Rattle.std.specs.List.{position_or_len, slice_index_or}
use Rattle.morton_order.specs.declared.space.Loc.{Loc}
use Rattle.morton_order.specs.declared.space.Shape.{Shape}
use Rattle.morton_order.specs.Space.{IsShape, root_along, same_loc}
use Rattle.block_tree.specs.Tree.{IsBalanced, IsLeaf, IsTree, is_listed}
use Rattle.block_tree.specs.Leaves.{leaves_of}
use Rattle.mesh_rules.specs.Sums.{sum_over, sum_to, table}

-- the lattice of roots, the cells of a block along x1, x2 and x3, the inner nodes, the leaves by rising key,
-- and for each leaf and each field the list of its totals, x1 fastest
pub record Mesh : Type 0 where
  pub shape : Shape
  pub cells : List ℕ
  pub inner : List Loc
  pub leaves : List Loc
  pub totals : List (List (List ℕ))

-- the cells of a block along an axis
abbrev pub cells_along : Mesh → ℕ → ℕ
cells_along m axis = slice_index m.cells axis

-- how many cells a block has
abbrev pub block_size : Mesh → ℕ
block_size m = cells_along m 0 * cells_along m 1 * cells_along m 2

-- the lattice of the cells: a cell is a location on it
abbrev pub cell_lattice : Mesh → Shape
cell_lattice m = record m.shape { root = root_along m.shape 0 * cells_along m 0 ∷ root_along m.shape 1 * cells_along m 1 ∷ root_along m.shape 2 * cells_along m 2 ∷ [] }

-- whether a location is an inner node
abbrev pub is_inner : Mesh → Loc → Bool
is_inner m l = is_listed m.inner l

-- the block of a cell's own level that the cell lies in
abbrev pub block_of : Mesh → Loc → Loc
block_of m c = record {
  level = c.level;
  l1 = c.l1 / cells_along m 0;
  l2 = c.l2 / cells_along m 1;
  l3 = c.l3 / cells_along m 2;
}

-- the place of a cell in its block, x1 fastest
abbrev pub place_of : Mesh → Loc → ℕ
place_of m c = c.l1 % cells_along m 0 + cells_along m 0 * (c.l2 % cells_along m 1 + cells_along m 1 * (c.l3 % cells_along m 2))

-- the cell at a place of a block
abbrev pub cell_at : Mesh → Loc → ℕ → Loc
cell_at m l place = record {
  level = l.level;
  l1 = l.l1 * cells_along m 0 + place % cells_along m 0;
  l2 = l.l2 * cells_along m 1 + place / cells_along m 0 % cells_along m 1;
  l3 = l.l3 * cells_along m 2 + place / cells_along m 0 / cells_along m 1;
}

-- the number of a leaf
abbrev pub leaf_number : Mesh → Loc → ℕ
leaf_number m l = position_or_len (same_loc l) m.leaves

-- the totals of a field on a leaf, by the number of the leaf
abbrev pub totals_on : Mesh → ℕ → ℕ → List ℕ
totals_on m leaf f = slice_index_or (slice_index_or m.totals leaf []) f []

-- the total that is stored for a field in a cell of a leaf
abbrev pub stored : Mesh → ℕ → Loc → ℕ
stored m f c = slice_index (totals_on m (leaf_number m (block_of m c)) f) (place_of m c)

-- a mesh with the same tree, each total being what its field and its cell give
abbrev pub filled : Mesh → ℕ → (ℕ → Loc → ℕ) → Mesh
filled m fields each = record m { totals = map (λ l. table fields (λ f. table (block_size m) (λ place. each f (cell_at m l place)))) m.leaves }

-- the sum of what each cell of a leaf gives
abbrev pub sum_on : Mesh → Loc → (Loc → ℕ) → ℕ
sum_on m l each = sum_to (block_size m) (λ place. each (cell_at m l place))

-- the sum of what each cell of a mesh gives, leaf by leaf
abbrev pub sum_cells : Mesh → (Loc → ℕ) → ℕ
sum_cells m each = sum_over m.leaves (λ l. sum_on m l each)

-- a field's total on a leaf, and on the whole mesh
abbrev pub leaf_total : Mesh → ℕ → Loc → ℕ
leaf_total m f l = sum_on m l (stored m f)

abbrev pub total_of : Mesh → ℕ → ℕ
total_of m f = sum_cells m (stored m f)

-- a mesh on a balanced tree, whose blocks have cells along each axis, and whose leaves are those of the tree
pub record IsMesh (m : Mesh) : Type 0 where
  pub shape : IsShape m.shape
  pub some_cells : (axis : ℕ) → axis < 3 → 1 ≤ cells_along m axis
  pub tree : IsTree m.shape (is_inner m)
  pub balanced : IsBalanced m.shape (is_inner m)
  pub leaves : m.leaves ≡ leaves_of m.shape (is_inner m)

-- a cell of a leaf
abbrev pub OnLeaf : Mesh → Loc → Type 0
OnLeaf m c = IsLeaf m.shape (is_inner m) (block_of m c)
