-- Regions of a block as the code has them.
use Rattle.std.specs.Prelude.{◌≡◌, ◌≢◌, ℕ, ◌+◌, ◌<◌, ◌≤◌, ◌^◌, List, slice_index}
use Rattle.block_layout.specs.declared.layout.Layout.{Layout}
use Rattle.block_layout.specs.Layouts.{width, widths}
use Rattle.block_layout.specs.Regions.{Region}
use Rattle.cell_boxes.specs.declared.boxes.BoxIn.{BoxIn}
use Rattle.cell_boxes.specs.Boxes.{HasCells}
use Rattle.block_regions.specs.declared.regions.BlockRegion.{BlockRegion}

-- a region as the definitions have it
abbrev pub region_of : BlockRegion → Region
region_of b = record { low = b.low; extents = b.extents }

-- the code's region is one of the definitions
pub record IsRegion (r : Region) (b : BlockRegion) : Type 0 where
  pub low : b.low ≡ r.low
  pub extents : b.extents ≡ r.extents

-- a region with cells lies in a block with its ghosts
pub record LiesInBlock (l : Layout) (b : BlockRegion) : Type 0 where
  pub cells : HasCells b.extents
  pub along1 : slice_index b.low 0 + slice_index b.extents 0 ≤ width l 0
  pub along2 : slice_index b.low 1 + slice_index b.extents 1 ≤ width l 1
  pub along3 : slice_index b.low 2 + slice_index b.extents 2 ≤ width l 2

-- a region has two cells or more along each axis in use, but for one
pub record IsWide (dims axis : ℕ) (extents : List ℕ) : Type 0 where
  pub cells : HasCells extents
  pub wide1 : 0 < dims → axis ≢ 0 → 2 ≤ slice_index extents 0
  pub wide2 : 1 < dims → axis ≢ 1 → 2 ≤ slice_index extents 1
  pub wide3 : 2 < dims → axis ≢ 2 → 2 ≤ slice_index extents 2

-- its indices are numbers of the machine
pub record IsSmall (b : BlockRegion) : Type 0 where
  pub along1 : slice_index b.low 0 + slice_index b.extents 0 < 2 ^ 33
  pub along2 : slice_index b.low 1 + slice_index b.extents 1 < 2 ^ 33
  pub along3 : slice_index b.low 2 + slice_index b.extents 2 < 2 ^ 33

-- one region lies in another
pub record IsInside (outer inner : BlockRegion) : Type 0 where
  pub cells : HasCells inner.extents
  pub along1 : slice_index inner.low 0 + slice_index inner.extents 0 ≤ slice_index outer.low 0 + slice_index outer.extents 0
  pub along2 : slice_index inner.low 1 + slice_index inner.extents 1 ≤ slice_index outer.low 1 + slice_index outer.extents 1
  pub along3 : slice_index inner.low 2 + slice_index inner.extents 2 ≤ slice_index outer.low 2 + slice_index outer.extents 2

-- the list of a block as a box, from an index on
abbrev pub box_of : Layout → List ℕ → BoxIn
box_of l low = record { first = 0; widths = widths l; low = low }

-- no more cells along each axis than a block with its ghosts can have
pub record AreFew (extents : List ℕ) : Type 0 where
  pub along1 : slice_index extents 0 ≤ 68
  pub along2 : slice_index extents 1 ≤ 68
  pub along3 : slice_index extents 2 ≤ 68
