use Rattle.yard_bench.specs.Free.{IsFree}
use Rattle.yard_bench.proofs.turns_of.Given as goal

abbrev pub invariant-loop : goal.invariant-loop
invariant-loop g l = IsFree l.yard l.seat
