-- The pairs of the mesh by the rows of a block, by either order.
use Rattle.std.specs.Prelude.{◌≡◌, ℕ, ◌+◌, ◌<◌, Bool, false, cond, List, slice_index}
use Rattle.mesh_rules.specs.Fields.{kind_at, moves_at, rates_at}
use Rattle.mesh_rules.specs.Faces.{cell_across, no_pair, pair}
use Rattle.block_layout.specs.Indices.{IsWithin}
use Rattle.block_geometry.specs.Blocks.{FieldBlock, IsFieldBlock, cell_in}
use Rattle.block_geometry.specs.Contents.{HasInterior, SeesAround, is_finer_in, looks_in_row, pair_of}
use Rattle.block_laws.specs.Rates.{reflects}

-- by either order, on a block whose ghosts are the look, the mesh's pair at a face behind which no finer cells are stored is the
-- pair of the totals that stand around it in the row of the cell, and nothing where the face of the domain reflects
abbrev pub PairsInRows : Type 0
PairsInRows = (b : FieldBlock) (cells i : List ℕ) (axis : ℕ) (high : Bool) → IsFieldBlock b → HasInterior b cells → SeesAround b cells → axis < b.layout.dims → IsWithin b.layout.cells i
    → is_finer_in b.mesh (cell_across b.mesh (cell_in b.mesh b.leaf i) axis high) ≡ false
    → pair_of b i axis high ≡ cond (reflects (kind_at b.settings axis high) (cell_across b.mesh (cell_in b.mesh b.leaf i) axis high)) no_pair
    (pair (moves_at b.settings b.field).order (rates_at b.settings b.field axis b.leaf.level) (looks_in_row b.layout cells axis (slice_index i axis + cond high 1 0) i))
