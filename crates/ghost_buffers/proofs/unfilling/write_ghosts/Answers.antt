use Rattle.ghost_buffers.specs.declared.part.How.TheVariants.{Same, Finer, Coarser}
use Rattle.ghost_buffers.proofs.Parts.{given_coarser, given_finer, given_same, stays_by}
use Rattle.ghost_buffers.proofs.unfilling.write_ghosts.Goals as goal

pub returns-in-Same-clause-given : goal.returns-in-Same-clause-given
returns-in-Same-clause-given c =
    given_same c.args.how c.args.layout.now c.args.extents c.args.part.now c.write_box.new.into c.args.region.now c.whole-from_box.result c.in_block-into_box.result c.in-Same.is c.whole-from_box.ensures c.in_block-into_box.ensures c.write_box.ensures.inside

pub returns-in-Same-clause-others : goal.returns-in-Same-clause-others
returns-in-Same-clause-others c =
    stays_by c.args.how Same c.args.layout.now c.args.extents c.args.cells.now c.write_box.new.into c.args.region.now c.in_block-into_box.result c.in-Same.is c.in_block-into_box.ensures c.write_box.ensures.outside

pub returns-in-Finer-clause-given : goal.returns-in-Finer-clause-given
returns-in-Finer-clause-given c =
    given_finer c.args.how c.args.layout.now c.args.extents c.args.part.now c.write_box-in-Finer.new.into c.args.region.now c.whole-from_box.result c.in_block-into_box.result c.in-Finer.is c.whole-from_box.ensures c.in_block-into_box.ensures c.write_box-in-Finer.ensures.inside

pub returns-in-Finer-clause-others : goal.returns-in-Finer-clause-others
returns-in-Finer-clause-others c =
    stays_by c.args.how Finer c.args.layout.now c.args.extents c.args.cells.now c.write_box-in-Finer.new.into c.args.region.now c.in_block-into_box.result c.in-Finer.is c.in_block-into_box.ensures c.write_box-in-Finer.ensures.outside

pub returns-in-Coarser-clause-given : goal.returns-in-Coarser-clause-given
returns-in-Coarser-clause-given c =
    given_coarser c.args.how c.args.layout.now c.args.extents c.args.part.now c.prolong_box.new.into c.args.region.now c.whole-from_box.result c.in_block-into_box.result c.in-Coarser.is c.whole-from_box.ensures c.in_block-into_box.ensures c.prolong_box.ensures.inside

pub returns-in-Coarser-clause-others : goal.returns-in-Coarser-clause-others
returns-in-Coarser-clause-others c =
    stays_by c.args.how Coarser c.args.layout.now c.args.extents c.args.cells.now c.prolong_box.new.into c.args.region.now c.in_block-into_box.result c.in-Coarser.is c.in_block-into_box.ensures c.prolong_box.ensures.outside
