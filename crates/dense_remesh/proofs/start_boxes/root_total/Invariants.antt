use Rattle.std.proofs.Common.{◌≡◌, ◌+◌, drop}
use Rattle.dense_remesh.specs.StartBoxes.{cell_of, root_total}
use Rattle.dense_remesh.proofs.start_boxes.root_total.Given as goal

abbrev pub invariant-loop-area : goal.invariant-loop-area
invariant-loop-area l = l.total + root_total (drop l.area-index l.boxes) (cell_of 0 l.cell) ≡ root_total l.boxes (cell_of 0 l.cell)
