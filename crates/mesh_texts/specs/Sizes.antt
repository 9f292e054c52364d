-- For the code: which lists the functions on a block take.
use Rattle.std.specs.Prelude.{◌≡◌, ℕ, ◌*◌, ◌<◌, List, [], length, map, slice_index}
use Rattle.std.specs.List.{slice_index_or}
use Rattle.block_tree.specs.Blocks.{TreeOfBlocks, leaves}
use Rattle.problem_set.specs.Settings.{Settings}
use Rattle.mesh_rules.specs.Fields.{field_count}
use Rattle.block_layout.specs.declared.layout.Layout.{Layout}

-- the cells of a row of a block, and its rows
abbrev pub row_width : Layout → ℕ
row_width l = slice_index l.cells 0

abbrev pub row_count : Layout → ℕ
row_count l = slice_index l.cells 1 * slice_index l.cells 2

-- a leaf's totals by field, from lists by field and leaf
abbrev pub leaf_lists : List (List (List ℕ)) → ℕ → List (List ℕ)
leaf_lists lists leaf = map (λ (list : List (List ℕ)). slice_index_or list leaf []) lists

-- each field has a total for each cell of a leaf
abbrev pub AreBlocks : Layout → List (List ℕ) → Type 0
AreBlocks l totals = (f : ℕ) → f < length totals → length (slice_index_or totals f []) ≡ row_width l * row_count l

-- a list for each field and leaf, in blocks of the problem's cells, over the problem's root blocks
pub record HaveBlocks (p : Settings) (t : TreeOfBlocks) (l : Layout) (lists : List (List (List ℕ))) : Type 0 where
  pub shape : t.shape ≡ p.shape
  pub cells : l.cells ≡ p.cells
  pub fields : length lists ≡ field_count p
  pub blocks : (leaf : ℕ) → leaf < length (leaves t) → AreBlocks l (leaf_lists lists leaf)
