use Rattle.std.proofs.Common.{◌≡◌, ◌+◌, length}
use Rattle.input_file.specs.Pieces.{length_so_far}
use Rattle.input_file.proofs.PieceLemmas.{Left}
use Rattle.input_file.proofs.so_far.SoFar.feed.Given as goal

abbrev pub invariant-loop-tail : goal.invariant-loop-tail
invariant-loop-tail l = (length_so_far l.so_far + length l.rest ≡ length_so_far l.fn.self + length l.fn.piece) × Left l.fn.self l.fn.piece l.so_far l.rest

abbrev pub decreases-loop-tail : goal.decreases-loop-tail
decreases-loop-tail l = length l.rest
