use Rattle.cycle_rounds.proofs.Ready.{counts_tell}
use Rattle.cycle_rounds.proofs.laws.readiness_law.Goals as goal

pub returns : goal.returns
returns g c = counts_tell g.row.X.Denot g.row.L.Denot g.row.P.Denot
