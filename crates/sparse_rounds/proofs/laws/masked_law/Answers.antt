use Rattle.sparse_rounds.proofs.Ends.{buffers_are_those, letters_stay_true, stays_masked}
use Rattle.sparse_rounds.proofs.laws.masked_law.Goals as goal

pub returns-clause-places : goal.returns-clause-places
returns-clause-places g c = stays_masked g.row.X.Denot g.row.V.Denot g.row.G.Denot g.row.F.Denot g.row.P.Denot g.row.W.Denot

pub returns-clause-letters : goal.returns-clause-letters
returns-clause-letters g c = letters_stay_true g.row.X.Denot g.row.V.Denot g.row.G.Denot g.row.F.Denot g.row.P.Denot g.row.W.Denot

pub returns-clause-buffers : goal.returns-clause-buffers
returns-clause-buffers g c = buffers_are_those g.row.X.Denot g.row.V.Denot g.row.G.Denot g.row.F.Denot g.row.P.Denot g.row.W.Denot
