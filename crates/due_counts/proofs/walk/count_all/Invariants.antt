use Rattle.due_counts.proofs.Sided.{LeavesWalked}
use Rattle.due_counts.proofs.walk.count_all.Given as goal

abbrev pub invariant-loop-leaf : goal.invariant-loop-leaf
invariant-loop-leaf l = LeavesWalked l.tree l.size l.leaf l.fn.ghosts l.ghosts l.fn.fluxes l.fluxes
