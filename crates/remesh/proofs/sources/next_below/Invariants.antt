use Rattle.remesh.specs.Sources.{IsNext, is_below}
use Rattle.remesh.proofs.sources.next_below.Given as goal

abbrev pub invariant-loop-j : goal.invariant-loop-j
invariant-loop-j l = IsNext (is_below l.old l.numbers l.j) l.from l.old.fields l.least
