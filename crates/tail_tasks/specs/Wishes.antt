-- What blocks wish, by their buffers.
use Rattle.std.specs.Prelude.{ℕ, List, slice_index}
use Rattle.deck_entries.specs.declared.entries.Criterion.{Criterion}
use Rattle.block_layout.specs.declared.layout.Layout.{Layout}
use Rattle.block_layout.specs.Indices.{number_of}
use Rattle.field_bufs.specs.declared.buf.FieldBuf.{FieldBuf}
use Rattle.field_bufs.specs.Buffers.{cells_of}
use Rattle.mesh_rules.specs.declared.wish.Wish.{Wish}
use Rattle.mesh_rules.specs.Tags.{wish_by}
use Rattle.refine_tags.specs.Measures.{measured_in}
use Rattle.cycle_kernels.specs.Blocks.{CycleMesh}
use Rattle.cycle_kernels.specs.Cells.{wish_of_block}
use Rattle.cycle_kernels.specs.Lists.{own_totals}
use Rattle.cycle_kernel_links.specs.Cells.{totals_in}
use Rattle.lent_bufs.specs.Buffers.{bufs_on}

-- a field without a buffer there counts as zeros
abbrev pub wish_on : CycleMesh → List FieldBuf → ℕ → Wish
wish_on w bufs b = wish_of_block w b (totals_in w (bufs_on bufs b))

-- what a criterion wishes of a block of a level by its buffers
abbrev pub wish_by_bufs : Layout → ℕ → List FieldBuf → Criterion → Wish
wish_by_bufs l level bufs c = wish_by c level
    (measured_in c.method l level (λ i. slice_index (own_totals l (cells_of bufs c.field)) (number_of l.cells i)))
