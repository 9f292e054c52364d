use Rattle.std.proofs.Common.{◌+◌, ◌≤◌, vec_len, vec_capacity}
use Rattle.yard_workers.specs.Run.{HaveEnded}
use Rattle.yard_workers.proofs.run.collected.Given as goal

abbrev pub invariant-loop-worker : goal.invariant-loop-worker
invariant-loop-worker g l =
    HaveEnded (g.M.Machine.complete l.yard.origin) l.yard (λ w. w.seat) (λ w. w.end) l.workers.items l.seats.items l.done × (vec_len l.seats + vec_len l.workers ≤ vec_capacity l.seats)

abbrev pub decreases-loop-worker : goal.decreases-loop-worker
decreases-loop-worker g l = vec_len l.workers
