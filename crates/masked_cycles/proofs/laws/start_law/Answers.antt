use Rattle.masked_cycles.proofs.Starts.{starts_are_starts}
use Rattle.masked_cycles.proofs.laws.start_law.Goals as goal

pub returns : goal.returns
returns c = starts_are_starts
