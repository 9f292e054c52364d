use Rattle.correction_laws.proofs.Replaced as replaced
use Rattle.correction_laws.proofs.laws.replaced_law.Goals as goal

pub returns : goal.returns
returns c = replaced.replaced_are_corrected
