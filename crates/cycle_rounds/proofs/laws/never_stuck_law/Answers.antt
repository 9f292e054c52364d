use Rattle.cycle_rounds.proofs.GoOn.{never_stuck}
use Rattle.cycle_rounds.proofs.laws.never_stuck_law.Goals as goal

pub returns : goal.returns
returns g c = never_stuck g.row.X.Denot g.row.L.Denot g.row.P.Denot
