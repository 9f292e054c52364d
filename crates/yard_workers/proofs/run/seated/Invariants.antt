use Rattle.std.proofs.Common.{◌≡◌}
use Rattle.yard_workers.specs.Run.{AreSeated}
use Rattle.yard_workers.proofs.run.seated.Given as goal

abbrev pub invariant-loop : goal.invariant-loop
invariant-loop g l = (l.yard ≡ record l.initial.yard { made = l.counter }) × AreSeated (λ w. w.seat) l.yard l.workers.items
