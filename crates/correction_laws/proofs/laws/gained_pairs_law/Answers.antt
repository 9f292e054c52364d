use Rattle.correction_laws.proofs.Replaced as replaced
use Rattle.correction_laws.proofs.laws.gained_pairs_law.Goals as goal

pub returns : goal.returns
returns c = replaced.replaced_gain_pairs
