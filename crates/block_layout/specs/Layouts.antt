-- How the totals of a field lie in the list of a block with its ghost layers.
use Rattle.std.specs.Prelude.{ℕ, ◌+◌, ◌*◌, cond, nat_lt, List, [], ◌∷◌, slice_index}
use Rattle.block_layout.specs.declared.layout.Layout.{Layout}
use Rattle.block_layout.specs.Indices.{count_of, number_of}

-- the cells of a block along an axis, without ghosts
abbrev pub cells_along : Layout → ℕ → ℕ
cells_along l axis = slice_index l.cells axis

-- the layers of ghosts at each side of an axis: two where it is in use, else none
abbrev pub ghost_layers : Layout → ℕ → ℕ
ghost_layers l axis = cond (nat_lt axis l.dims) 2 0

-- the cells of a block along an axis, with ghosts: four more where the axis is in use
abbrev pub width : Layout → ℕ → ℕ
width l axis = cells_along l axis + 2 * ghost_layers l axis

-- the cells of a block along each axis, with ghosts
abbrev pub widths : Layout → List ℕ
widths l = width l 0 ∷ width l 1 ∷ width l 2 ∷ []

-- the cells of a block, with ghosts
abbrev pub len : Layout → ℕ
len l = count_of (widths l)

-- where a cell lies; its index counts from the first ghost: 6 by 8 cells with ghosts have the cell 2 3 0 at 2 + 6 * 3
abbrev pub place : Layout → List ℕ → ℕ
place l i = number_of (widths l) i

-- the interior cells of a block
abbrev pub interior_len : Layout → ℕ
interior_len l = count_of l.cells
