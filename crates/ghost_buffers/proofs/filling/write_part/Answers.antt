use Rattle.std.proofs.Common.{◌∙◌, ap, sym}
use Rattle.block_layout.specs.Indices.{count_of}
use Rattle.ghost_buffers.specs.Regions.{sent_extents}
use Rattle.ghost_buffers.proofs.Parts.{made_below, part_made}
use Rattle.ghost_buffers.proofs.filling.write_part.Goals as goal

pub write_cells-requires-clause-small : goal.write_cells-requires-clause-small
write_cells-requires-clause-small c =
    made_below c.args.how c.args.layout.now c.args.side.axis c.args.side.high c.args.half c.args.cells.now c.part_extents-extents.result c.sent-region.result c.part_extents-extents.ensures.extents c.sent-region.ensures.region c.requires.small

pub write_cells-requires-clause-extents : goal.write_cells-requires-clause-extents
write_cells-requires-clause-extents c = c.sent-region.ensures.extents ∙ ap (sent_extents c.args.how c.args.layout.now.dims) (sym c.part_extents-extents.ensures.extents)

pub write_cells-requires-clause-part : goal.write_cells-requires-clause-part
write_cells-requires-clause-part c = c.requires.part ∙ ap count_of (sym c.part_extents-extents.ensures.extents)

pub returns : goal.returns
returns c =
    part_made c.args.how c.args.layout.now c.args.side.axis c.args.side.high c.args.half c.args.cells.now c.write_cells.new.part c.part_extents-extents.result c.sent-region.result c.part_extents-extents.ensures.extents c.sent-region.ensures.region
    (c.write_cells.auto.part ∙ c.requires.part) c.write_cells.ensures
