use Rattle.std.proofs.Common.{◌≡◌, slice_index, subst}
use Rattle.cell_boxes.specs.declared.boxes.BoxIn.{BoxIn}
use Rattle.cell_boxes.specs.Boxes.{StaysOffBox, address}
use Rattle.block_layout.specs.Regions.{ghosts}
use Rattle.block_regions.proofs.InBlocks.{has_region, region_fits, stays_off_region}
use Rattle.bound_faces.proofs.filling.fill_outside.Goals as goal

pub write_box_rows-requires-clause-into : goal.write_box_rows-requires-clause-into
write_box_rows-requires-clause-into c =
    rw c.in_block.ensures (region_fits c.args.layout.now c.ghosts-region.result _ c.ghosts-region.ensures.lies c.requires.cells)

pub returns-clause-ghosts : goal.returns-clause-ghosts
returns-clause-ghosts c =
    has_region c.args.layout.now (ghosts c.args.layout.now c.args.side.axis c.args.side.high) c.ghosts-region.result (λ _. c.args.total) c.write_box_rows.new.into c.ghosts-region.ensures.region
    (λ i w. subst (λ (b : BoxIn). slice_index c.write_box_rows.new.into (address b i) ≡ c.args.total) c.in_block.ensures (c.write_box_rows.ensures.inside i w))

pub returns-clause-others : goal.returns-clause-others
returns-clause-others c =
    stays_off_region c.args.layout.now (ghosts c.args.layout.now c.args.side.axis c.args.side.high) c.ghosts-region.result c.args.cells.now c.write_box_rows.new.into c.ghosts-region.ensures.region
    (subst (λ (b : BoxIn). StaysOffBox c.ghosts-region.result.extents b c.args.cells.now c.write_box_rows.new.into) c.in_block.ensures c.write_box_rows.ensures.outside)
