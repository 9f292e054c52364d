use Rattle.std.proofs.Common.{◌∙◌, ap, sym}
use Rattle.block_layout.specs.Indices.{count_of}
use Rattle.ghost_buffers.specs.Regions.{received_extents}
use Rattle.ghost_buffers.proofs.Parts.{ghosts_given, others_stay}
use Rattle.ghost_buffers.proofs.unfilling.unfill.Goals as goal

pub write_ghosts-requires-clause-extents : goal.write_ghosts-requires-clause-extents
write_ghosts-requires-clause-extents c = c.received-region.ensures.extents ∙ ap (received_extents c.args.how c.args.layout.now.dims) (sym c.part_extents-extents.ensures.extents)

pub write_ghosts-requires-clause-part : goal.write_ghosts-requires-clause-part
write_ghosts-requires-clause-part c = c.requires.part ∙ ap count_of (sym c.part_extents-extents.ensures.extents)

pub returns-clause-ghosts : goal.returns-clause-ghosts
returns-clause-ghosts c =
    ghosts_given c.args.how c.args.layout.now c.args.side.axis c.args.side.high c.args.half c.args.part.now c.write_ghosts.new.cells c.part_extents-extents.result c.received-region.result c.part_extents-extents.ensures.extents
    c.received-region.ensures.region c.received-region.ensures.extents c.write_ghosts.ensures.given

pub returns-clause-others : goal.returns-clause-others
returns-clause-others c =
    others_stay c.args.how c.args.layout.now c.args.side.axis c.args.side.high c.args.half c.args.cells.now c.write_ghosts.new.cells c.part_extents-extents.result c.received-region.result c.part_extents-extents.ensures.extents
    c.received-region.ensures.region c.received-region.ensures.extents c.write_ghosts.ensures.others
