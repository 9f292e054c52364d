use Rattle.dump_writer.proofs.Sums.{standing_counts}
use Rattle.dump_writer.proofs.laws.counting_law.Goals as goal

pub returns : goal.returns
returns c = standing_counts
