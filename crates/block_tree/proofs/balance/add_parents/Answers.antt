use Rattle.std.proofs.Common.{sym, arith, ◌∙◌}
use Rattle.block_tree.proofs.Lists.{parents_step, some_within}
use Rattle.block_tree.proofs.balance.add_parents.Goals as goal
use Rattle.block_tree.proofs.balance.add_parents.Goals.{in-Some+in_ok-add_parent, in_default}

pub loop-i-preserved : goal.loop-i-preserved
loop-i-preserved c = elim c.match-get.branch [
  | in-Some+in_ok-add_parent w ↦ parents_step c.args.shape.now.dims c.loop-i.nodes c.match-get.nodes _ c.args.places.now c.loop-i.i w.in-Some.at.now c.loop-i.invariant w.in-Some.ensures (w.nodes-is ∙ w.in_ok-add_parent.ensures.added)
  | in_default w ↦ some_within c.args.places.now c.loop-i.i (omega arith) (sym w.in_default.ensures)
]
