use Rattle.masked_cycles.proofs.Checking.{checks_agree}
use Rattle.masked_cycles.proofs.Reacting.{reactions_agree}
use Rattle.masked_cycles.proofs.laws.ended_law.Goals as goal

pub returns-clause-reacted : goal.returns-clause-reacted
returns-clause-reacted c = reactions_agree

pub returns-clause-checked : goal.returns-clause-checked
returns-clause-checked c = checks_agree
