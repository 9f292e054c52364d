use Rattle.cycle_events.proofs.LeasesHeld.{leases_hold, leases_stay_out, takes_lend}
use Rattle.cycle_events.proofs.Rising.{places_rise}
use Rattle.cycle_events.proofs.laws.lease_law.Goals as goal

pub returns-clause-rise : goal.returns-clause-rise
returns-clause-rise g c = places_rise

pub returns-clause-take : goal.returns-clause-take
returns-clause-take g c = takes_lend g.row.X.Denot g.row.V.Denot g.row.G.Denot g.row.F.Denot g.row.P.Denot g.row.W.Denot

pub returns-clause-holds : goal.returns-clause-holds
returns-clause-holds g c = leases_hold g.row.X.Denot g.row.V.Denot g.row.G.Denot g.row.F.Denot g.row.P.Denot g.row.W.Denot

pub returns-clause-stays : goal.returns-clause-stays
returns-clause-stays g c = leases_stay_out g.row.X.Denot g.row.V.Denot g.row.G.Denot g.row.F.Denot g.row.P.Denot g.row.W.Denot
