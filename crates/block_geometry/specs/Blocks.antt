-- The cells of a block of a mesh, and where they and the ghosts beside them lie in its list.
use Rattle.std.specs.Prelude.{◌≡◌, ℕ, ◌+◌, ◌-◌, ◌*◌, Bool, cond, List, slice_index}
use Rattle.morton_order.specs.declared.space.Loc.{Loc}
use Rattle.block_tree.specs.Tree.{IsLeaf}
use Rattle.problem_set.specs.Settings.{Settings}
use Rattle.mesh_rules.specs.Mesh.{IsMesh, Mesh, cells_along, is_inner}
use Rattle.block_layout.specs.declared.layout.Layout.{Layout}
use Rattle.block_layout.specs.Indices.{added, with_along}
use Rattle.block_layout.specs.Layouts.{cells_along as layout_cells, place}
use Rattle.block_layout.specs.Regions.{interior}

-- a layout is that of the blocks of a mesh
pub record IsLayoutOf (m : Mesh) (l : Layout) : Type 0 where
  pub dims : l.dims ≡ m.shape.dims
  pub cells : l.cells ≡ m.cells

-- a field on a block of a mesh, and how its totals lie in the list of the block
pub record FieldBlock : Type 0 where
  pub settings : Settings
  pub mesh : Mesh
  pub field : ℕ
  pub leaf : Loc
  pub layout : Layout

-- the block is a leaf of the mesh, and the layout that of its blocks
pub record IsFieldBlock (b : FieldBlock) : Type 0 where
  pub mesh : IsMesh b.mesh
  pub leaf : IsLeaf b.mesh.shape (is_inner b.mesh) b.leaf
  pub layout : IsLayoutOf b.mesh b.layout

-- the cell of a block at an index, which counts the block's own cells from 0
abbrev pub cell_in : Mesh → Loc → List ℕ → Loc
cell_in m block i = record {
  level = block.level;
  l1 = block.l1 * cells_along m 0 + slice_index i 0;
  l2 = block.l2 * cells_along m 1 + slice_index i 1;
  l3 = block.l3 * cells_along m 2 + slice_index i 2;
}

-- where this cell lies in the list of the block
abbrev pub own_place : Layout → List ℕ → ℕ
own_place l i = place l (added (interior l).low i)

-- the number of the last of n cells towards a side
abbrev pub end_of : ℕ → Bool → ℕ
end_of n high = cond high (n - 1) 0

-- an index stands at a side, in the block's last layer towards it
abbrev pub IsAtSide : Layout → ℕ → Bool → List ℕ → Type 0
IsAtSide l axis high i = slice_index i axis ≡ end_of (layout_cells l axis) high

-- a place in the row of a cell along an axis, counted from the first ghost
abbrev pub row_place : Layout → ℕ → ℕ → List ℕ → ℕ
row_place l axis x i = place l (with_along axis x (added (interior l).low i))

-- where a ghost lies in its row beyond a side, in the layer 0 next to the side or in layer 1: in a row of 4 cells the ghosts
-- 1 and 0 below, and 6 and 7 above
abbrev pub ghost_along : Layout → ℕ → Bool → ℕ → ℕ
ghost_along l axis high layer = cond high (layout_cells l axis + 2 + layer) (1 - layer)

-- the ghost of a layer beyond a side in the row of a cell
abbrev pub ghost_place : Layout → ℕ → Bool → ℕ → List ℕ → ℕ
ghost_place l axis high layer i = row_place l axis (ghost_along l axis high layer) i
