use Rattle.letter_laws.proofs.FinerLevel.{finer_sends}
use Rattle.letter_laws.proofs.CoarserLevel.{coarser_sends}
use Rattle.letter_laws.proofs.SameLevel.{same_sends}
use Rattle.letter_laws.proofs.laws.part_laws.Goals as goal

pub returns-clause-same : goal.returns-clause-same
returns-clause-same c = same_sends

pub returns-clause-coarser : goal.returns-clause-coarser
returns-clause-coarser c = coarser_sends

pub returns-clause-finer : goal.returns-clause-finer
returns-clause-finer c = finer_sends
