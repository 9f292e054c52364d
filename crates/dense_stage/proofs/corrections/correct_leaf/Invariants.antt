use Rattle.std.proofs.Common.{length}
use Rattle.block_tree.specs.Blocks.{leaves}
use Rattle.dense_stage.specs.Faces.{AreFaceLists}
use Rattle.dense_stage.proofs.LeavesDone.{AxesDone}
use Rattle.dense_stage.proofs.corrections.correct_leaf.Given as goal

abbrev pub ghost-correct_side : goal.ghost-correct_side
ghost-correct_side g a = g.x

abbrev pub invariant-loop-axis : goal.invariant-loop-axis
invariant-loop-axis g l = record {
  fit : AreFaceLists l.layout (length (leaves l.tree)) l.faces;
  sides : AxesDone l.tree l.layout g.x l.leaf l.axis l.initial.faces l.faces;
}
