use Rattle.std.proofs.Common.{List, ℕ, subst, arith}
use Rattle.cell_boxes.specs.declared.boxes.BoxIn.{BoxIn}
use Rattle.cell_boxes.specs.Boxes.{StaysOffBox}
use Rattle.dense_remesh.specs.Parts.{half_cells}
use Rattle.dense_remesh.proofs.Boxes.{sums_small, sums_written}
use Rattle.dense_remesh.proofs.parts.write_child_sums.Goals as goal

pub restrict_box-requires-clause-small : goal.restrict_box-requires-clause-small
restrict_box-requires-clause-small c = λ i w. omega (
  arith,
  sums_small c.args.layout.now c.args.fine.now c.half_cells-half.result c.cells.result c.factors-each.result c.whole-from_box.result c.half_cells-half.ensures c.factors-each.ensures c.whole-from_box.ensures
      (record { first = c.cells.ensures.first; second = c.cells.ensures.second; third = c.cells.ensures.third }) c.requires.small i w,
)

pub returns-clause-inside : goal.returns-clause-inside
returns-clause-inside c =
    sums_written c.args.layout.now c.args.child c.args.fine.now c.restrict_box.new.into c.half_cells-half.result c.cells.result c.factors-each.result c.whole-from_box.result c.part_box-into_box.result c.half_cells-half.ensures c.factors-each.ensures c.whole-from_box.ensures c.part_box-into_box.ensures
    (record { first = c.cells.ensures.first; second = c.cells.ensures.second; third = c.cells.ensures.third }) c.restrict_box.ensures.inside

pub returns-clause-outside : goal.returns-clause-outside
returns-clause-outside c =
    subst (λ (b : BoxIn). StaysOffBox (half_cells c.args.layout.now) b c.args.into.now c.restrict_box.new.into) c.part_box-into_box.ensures
    (subst (λ (v : List ℕ). StaysOffBox v c.part_box-into_box.result c.args.into.now c.restrict_box.new.into) c.half_cells-half.ensures c.restrict_box.ensures.outside)
