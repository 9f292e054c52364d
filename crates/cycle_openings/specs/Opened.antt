-- What an opening keeps, as a state of the rules.
use Rattle.std.specs.Prelude.{ℕ, List, map}
use Rattle.block_tree.specs.Blocks.{TreeOfBlocks, leaves}
use Rattle.block_layout.specs.Indices.{count_of}
use Rattle.mesh_rules.specs.Sums.{table}
use Rattle.mesh_rules.specs.Mask.{Slot}
use Rattle.mesh_rules.specs.Cycle.{State}
use Rattle.cycle_openings.specs.declared.leaf_fields.LeafField.{LeafField}
use Rattle.cycle_openings.specs.LeafFields.{found, slot_of, totals_of}

-- the totals of so many fields in so many cells, and their slots
abbrev pub totals_by : ℕ → ℕ → List LeafField → List (List ℕ)
totals_by cells count fields = table count (λ f. totals_of cells (found fields f))

abbrev pub slots_by : ℕ → List LeafField → List Slot
slots_by count fields = table count (λ f. slot_of (found fields f))

-- a tree, the cells of a block along each axis, how many fields there are, what the leaves have, and their counters
abbrev pub opened : TreeOfBlocks → List ℕ → ℕ → List (List LeafField) → List ℕ → State
opened t cells count copies counters = record {
  mesh = record {
    shape = t.shape;
    cells = cells;
    inner = t.inner;
    leaves = leaves t;
    totals = map (totals_by (count_of cells) count) copies;
  };
  mask = map (slots_by count) copies;
  counters = counters;
}
