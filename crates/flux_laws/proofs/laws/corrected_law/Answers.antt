use Rattle.flux_laws.proofs.AllPairs as pairs
use Rattle.flux_laws.proofs.laws.corrected_law.Goals as goal

pub returns : goal.returns
returns c = pairs.corrected_pairs
