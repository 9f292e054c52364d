use Rattle.std.proofs.Common.{length}
use Rattle.mesh_bench.proofs.rounds.walked.Given as goal

abbrev pub decreases-pieces : goal.decreases-pieces
decreases-pieces l = length l.walk
