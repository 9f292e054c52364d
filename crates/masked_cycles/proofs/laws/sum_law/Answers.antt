use Rattle.masked_cycles.proofs.Ends.{sums_agree}
use Rattle.masked_cycles.proofs.laws.sum_law.Goals as goal

pub returns : goal.returns
returns c = sums_agree
