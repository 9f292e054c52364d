use Rattle.letter_laws.proofs.Stays.{interior_stays, parts_stay, sides_stay}
use Rattle.letter_laws.proofs.laws.stay_laws.Goals as goal

pub returns-clause-interior : goal.returns-clause-interior
returns-clause-interior c = interior_stays

pub returns-clause-sides : goal.returns-clause-sides
returns-clause-sides c = sides_stay

pub returns-clause-parts : goal.returns-clause-parts
returns-clause-parts c = parts_stay
