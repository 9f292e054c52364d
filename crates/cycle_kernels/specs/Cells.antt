-- What becomes of the cells of a block whose fields react, and what the block wishes.
use Rattle.std.specs.Prelude.{ℕ, List, map, slice_index}
use Rattle.package_fields.specs.Kernel.{Reacted}
use Rattle.deck_entries.specs.declared.entries.Criterion.{Criterion}
use Rattle.mesh_rules.specs.declared.wish.Wish.{Wish}
use Rattle.mesh_rules.specs.Sums.{sum_to, table}
use Rattle.mesh_rules.specs.Fields.{field_count}
use Rattle.mesh_rules.specs.Tags.{at_root, strongest, wish_by}
use Rattle.block_layout.specs.Indices.{number_of}
use Rattle.block_layout.specs.Layouts.{interior_len}
use Rattle.refine_tags.specs.Measures.{measured_in}
use Rattle.cycle_kernels.specs.Blocks.{CycleMesh, leaf_at}

-- the totals of a block's cell by field
abbrev pub cell_totals : CycleMesh → (ℕ → List ℕ) → ℕ → List ℕ
cell_totals w totals k = table (field_count w.settings) (λ f. slice_index (totals f) k)

-- what the reactions make of it
abbrev pub reacted_cell : CycleMesh → (ℕ → List ℕ) → ℕ → Reacted
reacted_cell w totals k = w.react (cell_totals w totals k)

-- a field's totals after the reactions, and what of it they make and use on the block
abbrev pub reacted_by : CycleMesh → (ℕ → List ℕ) → ℕ → List ℕ
reacted_by w totals f = table (interior_len w.layout) (λ k. slice_index (reacted_cell w totals k).totals f)

abbrev pub made_by : CycleMesh → (ℕ → List ℕ) → ℕ → ℕ
made_by w totals f = sum_to (interior_len w.layout) (λ k. slice_index (reacted_cell w totals k).made f)

abbrev pub used_by : CycleMesh → (ℕ → List ℕ) → ℕ → ℕ
used_by w totals f = sum_to (interior_len w.layout) (λ k. slice_index (reacted_cell w totals k).used f)

-- what a criterion wishes of a block, and what the block wishes
abbrev pub criterion_wish : CycleMesh → ℕ → (ℕ → List ℕ) → Criterion → Wish
criterion_wish w b totals c = wish_by c (leaf_at w b).level (measured_in c.method w.layout (leaf_at w b).level (λ i. slice_index (totals c.field) (number_of w.layout.cells i)))

abbrev pub wish_of_block : CycleMesh → ℕ → (ℕ → List ℕ) → Wish
wish_of_block w b totals = at_root (leaf_at w b).level (strongest (map (criterion_wish w b totals) w.settings.criteria))
