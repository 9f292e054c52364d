use Rattle.transport_kernel.specs.Update.{listed}
use Rattle.transport_kernel.proofs.Axes.{PassedBelow}
use Rattle.transport_kernel.proofs.totals.update.Given as goal

abbrev pub invariant-loop-axis : goal.invariant-loop-axis
invariant-loop-axis l = PassedBelow l.layout l.axis (listed l.layout l.right) (listed l.layout l.left) l.initial.cells l.cells
