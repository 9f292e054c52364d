use Rattle.std.proofs.Common.{length}
use Rattle.block_tree.specs.Blocks.{leaves}
use Rattle.dense_stage.specs.Faces.{AreFaceLists}
use Rattle.dense_stage.proofs.LeavesDone.{LeavesDone}
use Rattle.dense_stage.proofs.corrections.correct.Given as goal

abbrev pub ghost-correct_leaf : goal.ghost-correct_leaf
ghost-correct_leaf g a = g.x

abbrev pub invariant-loop-leaf : goal.invariant-loop-leaf
invariant-loop-leaf g l = record {
  fit : AreFaceLists l.layout (length (leaves l.tree)) l.faces;
  done : LeavesDone l.tree l.layout g.x l.leaf l.initial.faces l.faces;
}
