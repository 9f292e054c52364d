use Rattle.dense_stage.proofs.Staged.{passed_whole}
use Rattle.dense_stage.proofs.staging.update_leaf.Goals as goal

pub returns-clause-passed : goal.returns-clause-passed
returns-clause-passed c =
    passed_whole c.args.layout.now c.args.cells.now c.as_mut_slice.result.now c.update.new.cells c.args.right.now c.as_slice.result.now c.args.left.now c.as_slice-2.result.now c.as_mut_slice.ensures.value c.as_slice.ensures c.as_slice-2.ensures
    c.update.auto.cells c.update.ensures.passed
