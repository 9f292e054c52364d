-- For the code: what a block shows of its fields.
use Rattle.std.specs.Prelude.{ℕ, List}
use Rattle.block_layout.specs.declared.layout.Layout.{Layout}
use Rattle.alloc_epochs.specs.Shelf.{place_on}
use Rattle.mesh_rules.specs.Sums.{table}
use Rattle.cell_block.specs.State.{Stored}
use Rattle.cell_block.specs.Rules.{interior_at}

-- the totals of each field on a block, x1 fastest: zeros where the field is not allocated
abbrev pub interiors_on : Layout → Stored → ℕ → List (List ℕ)
interiors_on l s leaf = table s.fields (λ f. interior_at l s (place_on leaf f))
