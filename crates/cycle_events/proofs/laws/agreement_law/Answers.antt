use Rattle.cycle_events.proofs.Agreements.{idle_counts_wait, journals_stay_masked}
use Rattle.cycle_events.proofs.laws.agreement_law.Goals as goal

pub returns-clause-places : goal.returns-clause-places
returns-clause-places g c = journals_stay_masked g.row.X.Denot g.row.V.Denot g.row.G.Denot g.row.F.Denot g.row.P.Denot g.row.W.Denot

pub returns-clause-idle : goal.returns-clause-idle
returns-clause-idle g c = idle_counts_wait g.row.X.Denot g.row.V.Denot g.row.G.Denot g.row.F.Denot g.row.P.Denot g.row.W.Denot
