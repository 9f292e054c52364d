use Rattle.cycle_rounds.proofs.LetterLaws.{in_one_place, own_numbers}
use Rattle.cycle_rounds.proofs.laws.letters_law.Goals as goal

pub returns-clause-place : goal.returns-clause-place
returns-clause-place g c = in_one_place g.row.X.Denot g.row.L.Denot g.row.P.Denot

pub returns-clause-number : goal.returns-clause-number
returns-clause-number g c = own_numbers g.row.X.Denot g.row.L.Denot g.row.P.Denot
