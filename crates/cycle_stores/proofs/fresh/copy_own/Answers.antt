use Rattle.std.proofs.Common.{subst}
use Rattle.cell_boxes.specs.declared.boxes.BoxIn.{BoxIn}
use Rattle.cell_boxes.specs.Boxes.{StaysOffBox}
use Rattle.cell_block.specs.Whole.{extents_of}
use Rattle.cycle_stores.proofs.FreshPlaces.{interior_copied}
use Rattle.cycle_stores.proofs.fresh.copy_own.Goals as goal

pub returns-clause-own : goal.returns-clause-own
returns-clause-own c = interior_copied c.args.layout.now c.args.from.now c.write_box.new.into c.interior_box-own.result c.interior_box-own.ensures (λ i w. c.write_box.ensures.inside i w)

pub returns-clause-rest : goal.returns-clause-rest
returns-clause-rest c =
    subst (λ (b : BoxIn). StaysOffBox (extents_of c.args.layout.now) b c.args.into.now c.write_box.new.into) c.interior_box-own.ensures c.write_box.ensures.outside
