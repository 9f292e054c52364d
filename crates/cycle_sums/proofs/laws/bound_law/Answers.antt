use Rattle.cycle_sums.proofs.Bounded.{sums_stay_below}
use Rattle.cycle_sums.proofs.laws.bound_law.Goals as goal

pub returns : goal.returns
returns g k = sums_stay_below g.row.X.Denot g.row.V.Denot g.row.G.Denot g.row.F.Denot g.row.P.Denot g.row.W.Denot
