use Rattle.flux_laws.proofs.Corrected as corrected
use Rattle.flux_laws.proofs.laws.coarse_pair_law.Goals as goal

pub returns : goal.returns
returns c = corrected.coarse_pairs
