-- What holds of the cells of a block, and of those across its sides.
use Rattle.std.specs.Prelude.{◌≡◌, ℕ, ◌+◌, ◌<◌, Bool, true, false, cond, not, Some, List, [], ◌∷◌, slice_index}
use Rattle.std.specs.Option.{option_map}
use Rattle.morton_order.specs.declared.space.Loc.{Loc}
use Rattle.morton_order.specs.Space.{IsIn}
use Rattle.morton_order.specs.Neighbours.{across}
use Rattle.mesh_rules.specs.Mesh.{IsMesh, Mesh, block_of, cell_lattice, cells_along}
use Rattle.mesh_rules.specs.Faces.{cell_across, looks_at}
use Rattle.block_layout.specs.declared.layout.Layout.{Layout}
use Rattle.block_layout.specs.Indices.{IsWithin, with_along}
use Rattle.block_geometry.specs.Blocks.{FieldBlock, IsFieldBlock, cell_in, end_of, ghost_place, own_place}
use Rattle.block_geometry.specs.Contents.{HasInterior, SeesAround, looks_in_row}

-- a cell of a block lies in the block, and in the domain
pub record LiesInBlock (m : Mesh) (l : Loc) (i : List ℕ) : Type 0 where
  pub block : block_of m (cell_in m l i) ≡ l
  pub inside : IsIn (cell_lattice m) (cell_in m l i)

-- what lies across a side of a cell of a block: the next cell of the block, and from the block's last layer the first one of the
-- block across this side, in the same row
pub record CrossesInRow (m : Mesh) (l : Loc) (i : List ℕ) (axis : ℕ) : Type 0 where
  pub up : slice_index i axis + 1 < cells_along m axis → cell_across m (cell_in m l i) axis true ≡ Some (cell_in m l (with_along axis (slice_index i axis + 1) i))
  pub down : (x : ℕ) → slice_index i axis ≡ x + 1 → cell_across m (cell_in m l i) axis false ≡ Some (cell_in m l (with_along axis x i))
  pub beyond : (high : Bool) → slice_index i axis ≡ end_of (cells_along m axis) high →
      cell_across m (cell_in m l i) axis high ≡ option_map (λ o. cell_in m o (with_along axis (end_of (cells_along m axis) (not high)) i)) (across m.shape l axis high)

pub record CellsOfBlocks : Type 0 where
  pub lies : (m : Mesh) (l : Loc) (i : List ℕ) → IsMesh m → IsIn m.shape l → IsWithin m.cells i → LiesInBlock m l i
  pub crosses : (m : Mesh) (l : Loc) (i : List ℕ) (axis : ℕ) → IsMesh m → IsIn m.shape l → IsWithin m.cells i → axis < 3 → CrossesInRow m l i axis

-- where the ghosts of a block are the look, the totals around each face of its cells are those that the mesh sees there
abbrev pub RowsAreLooks : Type 0
RowsAreLooks = (b : FieldBlock) (cells : List ℕ) (i : List ℕ) (axis : ℕ) (high : Bool) → IsFieldBlock b → HasInterior b cells → SeesAround b cells → IsWithin b.layout.cells i → axis < b.layout.dims →
    looks_at b.settings b.mesh b.field (cell_in b.mesh b.leaf i) axis high ≡ looks_in_row b.layout cells axis (slice_index i axis + cond high 1 0) i

-- a row of 4 cells: the cell 0 lies at 2, the ghosts below at 1 and 0, those above at 6 and 7; in 4 by 4 cells the cell 1 0 lies at
-- 3 + 8 * 2, and the ghosts below it along x2 at 3 + 8 * 1 and 3 + 8 * 0
abbrev pub RowOfFour : Layout → Type 0
RowOfFour l = (own_place l (0 ∷ 0 ∷ 0 ∷ []) ≡ 2)
    × (ghost_place l 0 false 0 (0 ∷ 0 ∷ 0 ∷ []) ≡ 1) × (ghost_place l 0 false 1 (0 ∷ 0 ∷ 0 ∷ []) ≡ 0)
    × (ghost_place l 0 true 0 (3 ∷ 0 ∷ 0 ∷ []) ≡ 6) × (ghost_place l 0 true 1 (3 ∷ 0 ∷ 0 ∷ []) ≡ 7)

abbrev pub PlaneOfFour : Layout → Type 0
PlaneOfFour l = (own_place l (1 ∷ 0 ∷ 0 ∷ []) ≡ 19) × (ghost_place l 1 false 0 (1 ∷ 0 ∷ 0 ∷ []) ≡ 11) × (ghost_place l 1 false 1 (1 ∷ 0 ∷ 0 ∷ []) ≡ 3)

pub record WorkedPlaces : Type 0 where
  pub row : (l : Layout) → l.dims ≡ 1 → l.cells ≡ 4 ∷ 1 ∷ 1 ∷ [] → RowOfFour l
  pub plane : (l : Layout) → l.dims ≡ 2 → l.cells ≡ 4 ∷ 4 ∷ 1 ∷ [] → PlaneOfFour l
