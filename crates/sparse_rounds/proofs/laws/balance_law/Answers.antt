use Rattle.sparse_rounds.proofs.Balances.{cycle_balances}
use Rattle.sparse_rounds.proofs.laws.balance_law.Goals as goal

pub returns : goal.returns
returns g c = cycle_balances g.row.X.Denot g.row.V.Denot g.row.G.Denot g.row.F.Denot g.row.P.Denot g.row.W.Denot
