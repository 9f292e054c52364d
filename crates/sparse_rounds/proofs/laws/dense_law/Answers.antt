use Rattle.sparse_rounds.proofs.DenseRuns.{masked_is_dense}
use Rattle.sparse_rounds.proofs.laws.dense_law.Goals as goal

pub returns : goal.returns
returns g c = masked_is_dense g.row.X.Denot g.row.V.Denot g.row.G.Denot g.row.F.Denot g.row.P.Denot g.row.W.Denot
