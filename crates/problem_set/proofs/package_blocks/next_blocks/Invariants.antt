use Rattle.problem_set.specs.PackageBlocks.{place_in}
use Rattle.problem_set.proofs.ChainLemmas.{IsChainedFrom}
use Rattle.problem_set.proofs.package_blocks.next_blocks.Given as goal

abbrev pub invariant-loop-i : goal.invariant-loop-i
invariant-loop-i l = IsChainedFrom l.blocks l.next.items (place_in l.nearest) l.i

abbrev pub decreases-loop-i : goal.decreases-loop-i
decreases-loop-i l = l.i
