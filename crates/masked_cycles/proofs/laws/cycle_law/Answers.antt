use Rattle.masked_cycles.proofs.Ends.{cycles_end}
use Rattle.masked_cycles.proofs.laws.cycle_law.Goals as goal

pub returns : goal.returns
returns c = cycles_end
