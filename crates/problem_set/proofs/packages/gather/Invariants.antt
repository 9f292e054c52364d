use Rattle.problem_set.proofs.GatherLemmas.{IsGathered, blocks_left}
use Rattle.problem_set.proofs.packages.gather.Given as goal

abbrev pub invariant-loop-place : goal.invariant-loop-place
invariant-loop-place l = IsGathered l.blocks l.package_name l.list.fields l.list.moves l.place

abbrev pub decreases-loop-place : goal.decreases-loop-place
decreases-loop-place l = blocks_left l.blocks l.place
