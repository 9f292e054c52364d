-- Boxes of cells in a block with its ghosts: the interior, the layers beside a side, and the parts of a side.
use Rattle.std.specs.Prelude.{◌==◌, ℕ, ◌+◌, ◌-◌, ◌*◌, ◌/◌, ◌%◌, ◌^◌, Bool, cond, ◌&&◌, nat_le, nat_lt, List, [], ◌∷◌, slice_index}
use Rattle.morton_order.specs.Space.{factor}
use Rattle.block_layout.specs.declared.layout.Layout.{Layout}
use Rattle.block_layout.specs.Indices.{added, count_of, index_of, with_along}
use Rattle.block_layout.specs.Layouts.{cells_along, ghost_layers, place}

-- a box: its lowest index, counted from the first ghost, and its cells along each axis
pub record Region : Type 0 where
  pub low : List ℕ
  pub extents : List ℕ

-- how many cells it has
abbrev pub size_of : Region → ℕ
size_of r = count_of r.extents

-- the index of its k-th cell, x1 fastest
abbrev pub cell_index : Region → ℕ → List ℕ
cell_index r k = added r.low (index_of r.extents k)

-- where its k-th cell lies in the list of a block
abbrev pub cell_place : Layout → Region → ℕ → ℕ
cell_place l r k = place l (cell_index r k)

-- whether a cell lies in it along an axis
abbrev pub covers_along : Region → ℕ → ℕ → Bool
covers_along r axis x = nat_le (slice_index r.low axis) x && nat_lt x (slice_index r.low axis + slice_index r.extents axis)

-- whether a cell lies in it
abbrev pub covers : Region → List ℕ → Bool
covers r i = covers_along r 0 (slice_index i 0) && covers_along r 1 (slice_index i 1) && covers_along r 2 (slice_index i 2)

-- the cells that a block itself has: all but the ghosts
abbrev pub interior : Layout → Region
interior l = record { low = ghost_layers l 0 ∷ ghost_layers l 1 ∷ ghost_layers l 2 ∷ []; extents = l.cells }

-- some layers of a box of the interior's cells along the other axes
abbrev pub layers : Layout → ℕ → ℕ → ℕ → Region
layers l axis from depth = record {
  low = with_along axis from (interior l).low;
  extents = with_along axis depth l.cells;
}

-- the two layers of ghosts next to a side
abbrev pub ghosts : Layout → ℕ → Bool → Region
ghosts l axis high = layers l axis (cond high (cells_along l axis + 2) 0) 2

-- so many layers of the interior next to a side
abbrev pub inner_layers : Layout → ℕ → Bool → ℕ → Region
inner_layers l axis high depth = layers l axis (cond high (cells_along l axis + 2 - depth) 2) depth

-- in which half along another axis a part of a side lies, 0 or 1; the bits of its number are those of the other axes, the lower one first
abbrev pub half_along : ℕ → ℕ → ℕ → ℕ → ℕ
half_along dims axis half other = cond (nat_lt axis other) (half / 2 ^ (other - 1)) (half / 2 ^ other) % factor dims other

-- where the cells of a box beside a part of a side begin along an axis: at the box's own, or in the middle of it
abbrev pub part_low : Layout → ℕ → ℕ → Region → ℕ → ℕ
part_low l axis half r other = slice_index r.low other + cond (other == axis) 0 (half_along l.dims axis half other * (slice_index r.extents other / 2))

-- how many there are along an axis: all along that of the side, half of them along another in use
abbrev pub part_extent : Layout → ℕ → Region → ℕ → ℕ
part_extent l axis r other = cond (other == axis) (slice_index r.extents other) (slice_index r.extents other / factor l.dims other)

-- the cells of a box beside a part of a side: with x1 normal to the side and two axes in use, part 1 is the upper half along x2
abbrev pub beside_part : Layout → ℕ → ℕ → Region → Region
beside_part l axis half r = record {
  low = part_low l axis half r 0 ∷ part_low l axis half r 1 ∷ part_low l axis half r 2 ∷ [];
  extents = part_extent l axis r 0 ∷ part_extent l axis r 1 ∷ part_extent l axis r 2 ∷ [];
}
