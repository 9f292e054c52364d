use Rattle.dense_remesh.specs.Parts.{HasChildSums}
use Rattle.dense_remesh.proofs.parts.write_sums.Given as goal

abbrev pub invariant-loop-j : goal.invariant-loop-j
invariant-loop-j l = HasChildSums l.layout l.field l.numbers l.j l.into
