use Rattle.dense_remesh.specs.Parts.{HasChildSums}
use Rattle.remesh.specs.Fields.{old_lists}
use Rattle.remesh.specs.Leaves.{plain}
use Rattle.remesh.proofs.cells.write_sums.Given as goal

abbrev pub invariant-loop-j : goal.invariant-loop-j
invariant-loop-j l = HasChildSums l.leaf.layout.now (old_lists (plain l.leaf) l.field) l.numbers l.j l.into
