use Rattle.due_counts.proofs.Sided.{AxesWalked}
use Rattle.due_counts.proofs.walk.count_leaf.Given as goal

abbrev pub invariant-loop-axis : goal.invariant-loop-axis
invariant-loop-axis l = AxesWalked l.tree l.size l.leaf l.axis l.fn.ghosts l.ghosts l.fn.fluxes l.fluxes
