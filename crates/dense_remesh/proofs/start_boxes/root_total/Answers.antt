use Rattle.std.proofs.Common.{arith, ap, List}
use Rattle.std.proofs.lemmas.List.{drop_all}
use Rattle.deck_entries.specs.declared.entries.StartBox.{StartBox}
use Rattle.dense_remesh.specs.StartBoxes.{cell_of, root_total}
use Rattle.dense_remesh.proofs.StartBoxes.{boxes_fit, boxes_held, boxes_passed}
use Rattle.dense_remesh.proofs.start_boxes.root_total.Goals as goal
use Rattle.dense_remesh.proofs.start_boxes.root_total.Goals.{then-holds, else-holds}

pub overflow_add-total : goal.overflow_add-total
overflow_add-total c =
    let small = boxes_fit c.args.boxes.now (cell_of 0 c.args.cell.now) c.loop-area.area-index c.loop-area.total _ c.holds.result c.loop-area-test.true c.holds.ensures c.if-holds.true c.requires c.loop-area.invariant in
    omega (arith, small)

pub loop-area-preserved : goal.loop-area-preserved
loop-area-preserved c = elim c.if-holds.branch [
  | then-holds w ↦ boxes_held c.args.boxes.now (cell_of 0 c.args.cell.now) c.loop-area.area-index c.loop-area.total c.if-holds.total _ _ c.holds.result c.loop-area-test.true c.holds.ensures w.if-holds.true w.total-is c.loop-area.invariant
  | else-holds w ↦ boxes_passed c.args.boxes.now (cell_of 0 c.args.cell.now) c.loop-area.area-index c.loop-area.total c.if-holds.total _ _ c.holds.result c.loop-area-test.true c.holds.ensures w.if-holds.false w.total-is c.loop-area.invariant
]

pub returns : goal.returns
returns c =
    let none = ap (λ (bs : List StartBox). root_total bs (cell_of 0 c.args.cell.now)) (drop_all c.loop-area.area-index c.args.boxes.now c.loop-area-test.false) in
    omega (arith, none, c.loop-area.invariant)
