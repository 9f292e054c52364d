use Rattle.sparse_rounds.proofs.EpochLaws.{epoch_tells}
use Rattle.sparse_rounds.proofs.laws.epoch_law.Goals as goal

pub returns : goal.returns
returns g c = epoch_tells g.row.X.Denot g.row.V.Denot g.row.G.Denot g.row.F.Denot g.row.P.Denot g.row.W.Denot
