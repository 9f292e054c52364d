use Rattle.state_bounds.proofs.Counts.{idle_counts_are_low}
use Rattle.state_bounds.proofs.laws.idle_law.Goals as goal

pub returns : goal.returns
returns c = idle_counts_are_low
