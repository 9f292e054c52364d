use Rattle.cycle_rounds.proofs.EventCounts.{events_counted}
use Rattle.cycle_rounds.proofs.laws.events_law.Goals as goal

pub returns : goal.returns
returns g c = events_counted g.row.X.Denot g.row.L.Denot g.row.P.Denot
