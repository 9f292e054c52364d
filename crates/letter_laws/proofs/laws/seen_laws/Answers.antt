use Rattle.letter_laws.proofs.Outside.{outside_sees}
use Rattle.letter_laws.proofs.CoarserLevel.{coarser_sees}
use Rattle.letter_laws.proofs.FinerGhosts.{finer_covers, finer_sees}
use Rattle.letter_laws.proofs.SameLevel.{same_sees}
use Rattle.letter_laws.proofs.laws.seen_laws.Goals as goal

pub returns-clause-outside : goal.returns-clause-outside
returns-clause-outside c = outside_sees

pub returns-clause-same : goal.returns-clause-same
returns-clause-same c = same_sees

pub returns-clause-finer : goal.returns-clause-finer
returns-clause-finer c = finer_sees

pub returns-clause-covers : goal.returns-clause-covers
returns-clause-covers c = finer_covers

pub returns-clause-coarser : goal.returns-clause-coarser
returns-clause-coarser c = coarser_sees
