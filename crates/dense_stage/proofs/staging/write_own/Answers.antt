use Rattle.dense_stage.proofs.Staged.{own_written}
use Rattle.dense_stage.proofs.staging.write_own.Goals as goal
use Rattle.std.proofs.Common.{◌∙◌}

pub returns : goal.returns
returns c =
    own_written c.args.layout.now c.args.cells.now c.write_box.new.into c.extents_of-extents.result c.interior_box-from_box.result c.whole-into_box.result c.extents_of-extents.ensures.value c.interior_box-from_box.ensures c.whole-into_box.ensures
    (c.write_box.auto.into ∙ c.requires.own) c.write_box.ensures.inside
