use Rattle.std.proofs.Common.{◌≡◌, ◌≤◌}
use Rattle.turn_yard.specs.Inside.{Keeps}
use Rattle.turn_yard.proofs.turns.take.Given as goal

abbrev pub invariant-loop : goal.invariant-loop
invariant-loop g l = Keeps l.initial.seat l.seat × (l.seat.me ≡ l.initial.seat.me) × (l.tries ≤ 64)
