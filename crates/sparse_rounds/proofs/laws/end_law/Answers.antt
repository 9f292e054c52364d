use Rattle.sparse_rounds.proofs.Ends.{ends_masked}
use Rattle.sparse_rounds.proofs.laws.end_law.Goals as goal

pub returns : goal.returns
returns g c = ends_masked g.row.X.Denot g.row.V.Denot g.row.G.Denot g.row.F.Denot g.row.P.Denot g.row.W.Denot
