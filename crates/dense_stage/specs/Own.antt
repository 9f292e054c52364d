-- For the code: the interior cells of a block in its list.
use Rattle.std.specs.Prelude.{ℕ, List, [], ◌∷◌, slice_index}
use Rattle.mesh_rules.specs.Sums.{table}
use Rattle.block_layout.specs.declared.layout.Layout.{Layout}
use Rattle.block_layout.specs.Indices.{count_of, index_of}
use Rattle.block_layout.specs.Layouts.{ghost_layers, widths}
use Rattle.block_geometry.specs.Blocks.{own_place}
use Rattle.cell_boxes.specs.declared.boxes.BoxIn.{BoxIn}

-- the cells along each axis, and the interior as a box of the list
abbrev pub extents_of : Layout → List ℕ
extents_of l = slice_index l.cells 0 ∷ slice_index l.cells 1 ∷ slice_index l.cells 2 ∷ []

abbrev pub interior_box : Layout → BoxIn
interior_box l = record { first = 0; widths = widths l; low = ghost_layers l 0 ∷ ghost_layers l 1 ∷ ghost_layers l 2 ∷ [] }

-- the totals of the interior cells, x1 fastest
abbrev pub own_cells : Layout → List ℕ → List ℕ
own_cells l cells = table (count_of l.cells) (λ k. slice_index cells (own_place l (index_of l.cells k)))
