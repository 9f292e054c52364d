use Rattle.dense_stage.specs.Faces.{AreListsOf}
use Rattle.dense_stage.proofs.face_lists.zero_lists.Given as goal

abbrev pub invariant-loop : goal.invariant-loop
invariant-loop l = AreListsOf l.size l.counter l.lists.items
