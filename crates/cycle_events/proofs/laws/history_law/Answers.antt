use Rattle.cycle_events.proofs.Histories.{histories_are_told, journals_are_histories, journals_go_on}
use Rattle.cycle_events.proofs.laws.history_law.Goals as goal

pub returns-clause-history : goal.returns-clause-history
returns-clause-history g c = journals_are_histories g.row.X.Denot g.row.V.Denot g.row.G.Denot g.row.F.Denot g.row.P.Denot g.row.W.Denot

pub returns-clause-told : goal.returns-clause-told
returns-clause-told g c = histories_are_told g.row.X.Denot g.row.V.Denot g.row.G.Denot g.row.F.Denot g.row.P.Denot g.row.W.Denot

pub returns-clause-legal : goal.returns-clause-legal
returns-clause-legal g c = journals_go_on g.row.X.Denot g.row.V.Denot g.row.G.Denot g.row.F.Denot g.row.P.Denot g.row.W.Denot
