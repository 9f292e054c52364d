use Rattle.ghost_buffers.proofs.Parts.{made_coarser, made_finer, made_same}
use Rattle.ghost_buffers.proofs.filling.write_cells.Goals as goal

pub returns-in-Same : goal.returns-in-Same
returns-in-Same c =
    made_same c.args.how c.args.layout.now c.args.extents c.args.cells.now c.write_box.new.into c.args.region.now c.in_block-from_box.result c.whole-into_box.result c.in-Same.is c.in_block-from_box.ensures c.whole-into_box.ensures c.write_box.ensures.inside

pub returns-in-Finer : goal.returns-in-Finer
returns-in-Finer c =
    made_finer c.args.how c.args.layout.now c.args.extents c.args.cells.now c.restrict_box.new.into c.factors.result c.args.region.now c.in_block-from_box.result c.whole-into_box.result c.in-Finer.is c.factors.ensures c.in_block-from_box.ensures c.whole-into_box.ensures c.restrict_box.ensures.inside

pub returns-in-Coarser : goal.returns-in-Coarser
returns-in-Coarser c =
    made_coarser c.args.how c.args.layout.now c.args.extents c.args.cells.now c.write_box-in-Coarser.new.into c.args.region.now c.in_block-from_box.result c.whole-into_box.result c.in-Coarser.is c.in_block-from_box.ensures c.whole-into_box.ensures c.write_box-in-Coarser.ensures.inside
