-- Indices of the finer and of the coarser cells of a cell of a block.
use Rattle.std.specs.Prelude.{◌≡◌, ℕ, ◌+◌, ◌*◌, ◌/◌, ◌%◌, List, [], ◌∷◌, map, slice_index}
use Rattle.morton_order.specs.Space.{factor}
use Rattle.mesh_rules.specs.Mesh.{Mesh, cells_along}

-- which half of a location its child j is along each axis, 0 or 1
abbrev pub halves_of : ℕ → ℕ → List ℕ
halves_of dims j = (j % factor dims 0) ∷ (j / 2 % factor dims 1) ∷ (j / 4 % factor dims 2) ∷ []

-- how many cells of a block a child of it covers along an axis: half of them along one in use
abbrev pub half_cells : Mesh → ℕ → ℕ
half_cells m axis = cells_along m axis / factor m.shape.dims axis

-- the cell of an index lies in the child j of its block
pub record LiesInChild (m : Mesh) (j : ℕ) (i : List ℕ) : Type 0 where
  pub along1 : slice_index i 0 / half_cells m 0 ≡ slice_index (halves_of m.shape.dims j) 0
  pub along2 : slice_index i 1 / half_cells m 1 ≡ slice_index (halves_of m.shape.dims j) 1
  pub along3 : slice_index i 2 / half_cells m 2 ≡ slice_index (halves_of m.shape.dims j) 2

-- the number along an axis, in the child that the cell lies in, of the k-th of the finer cells in it
abbrev pub finer_along : Mesh → List ℕ → ℕ → ℕ → ℕ
finer_along m i k axis = factor m.shape.dims axis * (slice_index i axis % half_cells m axis) + slice_index (halves_of m.shape.dims k) axis

-- its index: in blocks of 4 by 4 cells, the 4 finer cells in the cell 3 1 are 2 2, 3 2, 2 3 and 3 3 of the child 1
abbrev pub finer_index : Mesh → List ℕ → ℕ → List ℕ
finer_index m i k = finer_along m i k 0 ∷ finer_along m i k 1 ∷ finer_along m i k 2 ∷ []

-- the number along an axis, in the parent, of the coarser cell that a cell of the child j lies in
abbrev pub coarser_along : Mesh → ℕ → List ℕ → ℕ → ℕ
coarser_along m j i axis = slice_index (halves_of m.shape.dims j) axis * half_cells m axis + slice_index i axis / factor m.shape.dims axis

-- its index: in blocks of 4 by 4 cells, the cell 2 3 of the child 1 lies in the cell 3 1
abbrev pub coarser_index : Mesh → ℕ → List ℕ → List ℕ
coarser_index m j i = coarser_along m j i 0 ∷ coarser_along m j i 1 ∷ coarser_along m j i 2 ∷ []

-- which of the finer cells in the coarser one a cell is
abbrev pub number_in_coarser : ℕ → List ℕ → ℕ
number_in_coarser dims i = slice_index i 0 % factor dims 0 + 2 * (slice_index i 1 % factor dims 1) + 4 * (slice_index i 2 % factor dims 2)

-- the number of the child of its block that a cell lies in
abbrev pub child_at : Mesh → List ℕ → ℕ
child_at m i = slice_index i 0 / half_cells m 0 + 2 * (slice_index i 1 / half_cells m 1) + 4 * (slice_index i 2 / half_cells m 2)

-- these numbers, computed
pub record WorkedIndices : Type 0 where
  pub finer : (m : Mesh) → m.shape.dims ≡ 2 → m.cells ≡ 4 ∷ 4 ∷ 1 ∷ [] → map (finer_index m (3 ∷ 1 ∷ 0 ∷ [])) (0 ∷ 1 ∷ 2 ∷ 3 ∷ []) ≡ (2 ∷ 2 ∷ 0 ∷ []) ∷ (3 ∷ 2 ∷ 0 ∷ []) ∷ (2 ∷ 3 ∷ 0 ∷ []) ∷ (3 ∷ 3 ∷ 0 ∷ []) ∷ []
  pub coarser : (m : Mesh) → m.shape.dims ≡ 2 → m.cells ≡ 4 ∷ 4 ∷ 1 ∷ [] → coarser_index m 1 (2 ∷ 3 ∷ 0 ∷ []) ≡ 3 ∷ 1 ∷ 0 ∷ []
