use Rattle.std.proofs.Common.{◌+◌, ◌∙◌, ap}
use Rattle.turn_yard.specs.Yard.{YardState}
use Rattle.yard_workers.proofs.Runs.{one_more}
use Rattle.yard_workers.proofs.run.seated.Goals as goal

pub loop-preserved : goal.loop-preserved
loop-preserved g c = (
  c.seat_for-seat.ensures.made ∙ ap (λ (y : YardState). record y { made = y.made + 1 }) c.loop.invariant.0,
  one_more (λ w. w.seat) c.loop.yard c.seat_for-seat.new.self c.loop.workers.items c.push.new.self.items _ c.loop.invariant.1 c.seat_for-seat.ensures.seat c.seat_for-seat.ensures.made c.in_ok-push.ensures.items,
)
