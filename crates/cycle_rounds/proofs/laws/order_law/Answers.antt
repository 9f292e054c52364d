use Rattle.cycle_rounds.proofs.LetterLaws.{in_order}
use Rattle.cycle_rounds.proofs.laws.order_law.Goals as goal

pub returns : goal.returns
returns g c = in_order g.row.X.Denot g.row.L.Denot g.row.P.Denot
