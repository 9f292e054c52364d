-- A field's part of a letter: which cells of the sender it is made of.
use Rattle.std.specs.Prelude.{ℕ, ◌<◌, Bool, false, List}
use Rattle.block_layout.specs.declared.layout.Layout.{Layout}
use Rattle.block_layout.specs.Indices.{IsWithin, count_of, index_of}
use Rattle.block_layout.specs.Regions.{Region, beside_part, ghosts, inner_layers}
use Rattle.mesh_rules.specs.Sums.{table}
use Rattle.restrict_prolong.specs.Refined.{factors, sum_in}
use Rattle.block_regions.specs.Written.{cell_in}
use Rattle.ghost_buffers.specs.declared.part.How.{How}
use Rattle.ghost_buffers.specs.declared.part.How.TheVariants.{Same, Finer, Coarser}

-- the cells of the sender that a part is made of: its two layers next to the face; of a finer one the four layers which the
-- receiver's two are the sums of; of a coarser one its one layer, over the half of the face that the receiver covers
abbrev pub sent : How → Layout → ℕ → Bool → ℕ → Region
sent Same l axis high half = inner_layers l axis high 2
sent Finer l axis high half = inner_layers l axis high 4
sent Coarser l axis high half = beside_part l axis half (inner_layers l axis high 1)

-- the cells of a part along each axis: two layers, or one of a coarser sender; along the other axes those of the face, or half of
-- them between a finer and a coarser block
abbrev pub part_extents : How → Layout → ℕ → List ℕ
part_extents Same l axis = (ghosts l axis false).extents
part_extents Finer l axis = (beside_part l axis 0 (ghosts l axis false)).extents
part_extents Coarser l axis = (beside_part l axis 0 (inner_layers l axis false 1)).extents

-- the cell of a part at an index: the sender's total, or the sum of those in the receiver's cell
abbrev pub part_cell : How → Layout → ℕ → Bool → ℕ → List ℕ → List ℕ → ℕ
part_cell Same l axis high half cells i = cell_in l (sent Same l axis high half) cells i
part_cell Finer l axis high half cells i = sum_in (factors l.dims) (cell_in l (sent Finer l axis high half) cells) i
part_cell Coarser l axis high half cells i = cell_in l (sent Coarser l axis high half) cells i

-- the part that a sender makes of its cells for the receiver behind its own side, x1 fastest
abbrev pub part_of : How → Layout → ℕ → Bool → ℕ → List ℕ → List ℕ
part_of how l axis high half cells = table (count_of (part_extents how l axis)) (λ k. part_cell how l axis high half cells (index_of (part_extents how l axis) k))

-- the sums that a finer sender makes are below a bound
abbrev pub PartBelow : ℕ → How → Layout → ℕ → Bool → ℕ → List ℕ → Type 0
PartBelow bound Same l axis high half cells = Unit {0}
PartBelow bound Finer l axis high half cells = (i : List ℕ) → IsWithin (part_extents Finer l axis) i → part_cell Finer l axis high half cells i < bound
PartBelow bound Coarser l axis high half cells = Unit {0}
