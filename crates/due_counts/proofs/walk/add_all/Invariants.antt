use Rattle.std.specs.Prelude.{take}
use Rattle.due_counts.specs.Counts.{AddsAll}
use Rattle.due_counts.specs.Sides.{divided}
use Rattle.due_counts.proofs.walk.add_all.Given as goal

abbrev pub invariant-loop-i : goal.invariant-loop-i
invariant-loop-i l = AddsAll (divided l.size (take l.i l.leaves)) l.fn.counts l.counts
