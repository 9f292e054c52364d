use Rattle.std.proofs.Common.{length}
use Rattle.dense_tags.proofs.leaf_wishes.+strongest.Given as goal

abbrev pub decreases-strongest : goal.decreases-strongest
decreases-strongest l = length l.criteria.now
