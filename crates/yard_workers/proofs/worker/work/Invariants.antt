use Rattle.yard_workers.specs.Machine.{Was}
use Rattle.yard_workers.specs.Worker.{IsLater}
use Rattle.yard_workers.proofs.worker.work.Given as goal

abbrev pub invariant-loop : goal.invariant-loop
invariant-loop g l = IsLater l.yard l.initial.seat l.seat × Was (g.M.Machine.noted l.notes l.yard.origin) l.seat.seen
