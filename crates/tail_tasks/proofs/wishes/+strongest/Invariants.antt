use Rattle.std.proofs.Common.{length}
use Rattle.tail_tasks.proofs.wishes.+strongest.Given as goal

abbrev pub decreases-strongest : goal.decreases-strongest
decreases-strongest l = length l.criteria.now
