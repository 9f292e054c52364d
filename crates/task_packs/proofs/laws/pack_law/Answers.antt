use Rattle.task_packs.proofs.Found.{kinds_are_told, tasks_have_packs}
use Rattle.task_packs.proofs.laws.pack_law.Goals as goal

pub returns-clause-kind : goal.returns-clause-kind
returns-clause-kind g k = kinds_are_told g.row.X.Denot g.row.V.Denot g.row.G.Denot g.row.F.Denot g.row.P.Denot g.row.W.Denot

pub returns-clause-pack : goal.returns-clause-pack
returns-clause-pack g k = tasks_have_packs g.row.X.Denot g.row.V.Denot g.row.G.Denot g.row.F.Denot g.row.P.Denot g.row.W.Denot
