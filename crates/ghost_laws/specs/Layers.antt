-- The cells of the block across a side that stand in the ghost layers beyond it.
use Rattle.std.specs.Prelude.{ℕ, zero, suc, ◌-◌, Bool, cond, List}
use Rattle.morton_order.specs.declared.space.Loc.{Loc}
use Rattle.mesh_rules.specs.Mesh.{Mesh, cells_along}
use Rattle.mesh_rules.specs.Faces.{seen_next, seen_second}
use Rattle.block_layout.specs.Indices.{with_along}
use Rattle.block_geometry.specs.Blocks.{FieldBlock, cell_in}

-- which cell of a row of n across a side stands in a ghost layer: beyond the high side the first and the second one, beyond the
-- low side the last and the one before
abbrev pub layer_along : ℕ → Bool → ℕ → ℕ
layer_along n high layer = cond high layer (n - 1 - layer)

-- its index in the block across, in the row of a cell
abbrev pub across_index : Mesh → ℕ → Bool → ℕ → List ℕ → List ℕ
across_index m axis high layer i = with_along axis (layer_along (cells_along m axis) high layer) i

-- what the mesh sees beyond a side of a cell, in the ghost layer 0 next to it or in layer 1
abbrev pub seen_in_layer : FieldBlock → List ℕ → ℕ → Bool → ℕ → ℕ
seen_in_layer b i axis high zero = seen_next b.settings b.mesh b.field (cell_in b.mesh b.leaf i) axis high
seen_in_layer b i axis high (suc _) = seen_second b.settings b.mesh b.field (cell_in b.mesh b.leaf i) axis high

-- the same field on another block
abbrev pub on_block : FieldBlock → Loc → FieldBlock
on_block b l = record b { leaf = l }
