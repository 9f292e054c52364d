use Rattle.round_letters.proofs.Readings.{readings_have_due_letters}
use Rattle.round_letters.proofs.laws.reading_law.Goals as goal

pub returns : goal.returns
returns g c = readings_have_due_letters g.row.X.Denot g.row.L.Denot g.row.P.Denot
