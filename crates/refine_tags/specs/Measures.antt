-- What a method measures of a block's own cells, which lie as a box in a list.
use Rattle.std.specs.Prelude.{ℕ, ◌+◌, ◌*◌, ◌^◌, cond, nat_lt, List, slice_index}
use Rattle.mesh_settings.specs.declared.words.Method.{Method}
use Rattle.mesh_settings.specs.declared.words.Method.TheVariants.{Peak, Jump}
use Rattle.mesh_rules.specs.Sums.{greatest_to}
use Rattle.mesh_rules.specs.Tags.{difference}
use Rattle.block_layout.specs.declared.layout.Layout.{Layout}
use Rattle.block_layout.specs.Indices.{count_of, index_of, with_along}
use Rattle.cell_boxes.specs.declared.boxes.BoxIn.{BoxIn}
use Rattle.cell_boxes.specs.Boxes.{address}

-- the total at an index of a box in a list
abbrev pub total_at : List ℕ → BoxIn → List ℕ → ℕ
total_at list b i = slice_index list (address b i)

-- the difference of the totals of a cell and the next one along an axis, where the block has a next one
abbrev pub step_in : Layout → (List ℕ → ℕ) → List ℕ → ℕ → ℕ
step_in l total i axis = cond (nat_lt (slice_index i axis + 1) (slice_index l.cells axis)) (difference (total i) (total (with_along axis (slice_index i axis + 1) i))) 0

-- what a method measures in a cell: its total, or the greatest difference to a next one
abbrev pub measured_at : Method → Layout → (List ℕ → ℕ) → List ℕ → ℕ
measured_at Peak l total i = total i
measured_at Jump l total i = greatest_to l.dims (step_in l total i)

-- and the greatest in the block
abbrev pub greatest_in : Method → Layout → (List ℕ → ℕ) → ℕ
greatest_in method l total = greatest_to (count_of l.cells) (λ k. measured_at method l total (index_of l.cells k))

-- by weights, which for the cells of a level are their totals times one factor: 12 for a total of 3 at level 1 of two dimensions
abbrev pub measured_in : Method → Layout → ℕ → (List ℕ → ℕ) → ℕ
measured_in method l level total = greatest_in method l total * 2 ^ (l.dims * level)
