use Rattle.cycle_events.proofs.Agreements.{events_are_counted, journals_end_masked, never_stuck_now}
use Rattle.cycle_events.proofs.laws.end_law.Goals as goal

pub returns-clause-end : goal.returns-clause-end
returns-clause-end g c = journals_end_masked g.row.X.Denot g.row.V.Denot g.row.G.Denot g.row.F.Denot g.row.P.Denot g.row.W.Denot

pub returns-clause-stuck : goal.returns-clause-stuck
returns-clause-stuck g c = never_stuck_now g.row.X.Denot g.row.V.Denot g.row.G.Denot g.row.F.Denot g.row.P.Denot g.row.W.Denot

pub returns-clause-count : goal.returns-clause-count
returns-clause-count g c = events_are_counted g.row.X.Denot g.row.V.Denot g.row.G.Denot g.row.F.Denot g.row.P.Denot g.row.W.Denot
