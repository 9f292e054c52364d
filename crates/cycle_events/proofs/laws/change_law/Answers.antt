use Rattle.cycle_events.proofs.Deliveries.{deliveries_make}
use Rattle.cycle_events.proofs.Gives.{gives_make}
use Rattle.cycle_events.proofs.laws.change_law.Goals as goal

pub returns-clause-deliver : goal.returns-clause-deliver
returns-clause-deliver g c = deliveries_make g.row.X.Denot g.row.V.Denot g.row.G.Denot g.row.F.Denot g.row.P.Denot g.row.W.Denot

pub returns-clause-give : goal.returns-clause-give
returns-clause-give g c = gives_make g.row.X.Denot g.row.V.Denot g.row.G.Denot g.row.F.Denot g.row.P.Denot g.row.W.Denot
