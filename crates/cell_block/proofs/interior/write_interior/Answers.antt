use Rattle.std.proofs.Common.{◌∙◌}
use Rattle.cell_block.proofs.Layouts.{interior_written}
use Rattle.cell_block.proofs.interior.write_interior.Goals as goal

pub returns : goal.returns
returns c =
    interior_written c.args.layout.now c.args.cells.now c.write_box.new.into c.extents_of-extents.result c.interior_box-from_box.result c.whole-into_box.result c.extents_of-extents.ensures.value c.interior_box-from_box.ensures c.whole-into_box.ensures
    (c.write_box.auto.into ∙ c.requires.into) c.write_box.ensures.inside
