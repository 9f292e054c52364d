use Rattle.task_packs.proofs.Found.{noted_packs_list, notes_stay}
use Rattle.task_packs.proofs.laws.note_law.Goals as goal

pub returns-clause-places : goal.returns-clause-places
returns-clause-places g k = noted_packs_list g.row.X.Denot g.row.V.Denot g.row.G.Denot g.row.F.Denot g.row.P.Denot g.row.W.Denot

pub returns-clause-stay : goal.returns-clause-stay
returns-clause-stay g k = notes_stay g.row.X.Denot g.row.V.Denot g.row.G.Denot g.row.F.Denot g.row.P.Denot g.row.W.Denot
