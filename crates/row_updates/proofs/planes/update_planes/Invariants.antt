use Rattle.row_updates.proofs.PlaneSteps.{PlanesAre}
use Rattle.row_updates.proofs.planes.update_planes.Given as goal

abbrev pub invariant-loop-plane : goal.invariant-loop-plane
invariant-loop-plane g l = PlanesAre (g.R.RowRule.gives l.op) (record { one = l.one; first = l.first; second = l.second; other = l.other; third = l.third; fourth = l.fourth }) l.len l.count l.plane l.at l.initial.into l.into
