use Rattle.std.proofs.Common.{ℕ, List, length, not, ap, ◌∙◌}
use Rattle.std.proofs.lemmas.List.FromFn.{length-map-range_with_len}
use Rattle.ghost_buffers.specs.declared.part.How.TheVariants.{Same}
use Rattle.ghost_buffers.specs.Parts.{part_cell, part_extents}
use Rattle.block_layout.specs.Indices.{count_of, index_of}
use Rattle.kernel_bench.proofs.exchange.fill_side.Goals as goal

pub unfill-requires-clause-part : goal.unfill-requires-clause-part
unfill-requires-clause-part c =
    let l = c.args.layout.now in
    let axis = c.args.side.axis in
    let extents = part_extents Same l axis in
    ap (λ (part : List ℕ). length part) (c.as_slice.ensures ∙ c.in_ok-part.ensures)
    ∙ length-map-range_with_len (λ (k : ℕ). part_cell Same l axis (not c.args.side.high) 0 c.as_slice-cells.result.now (index_of extents k)) 0 (count_of extents)
