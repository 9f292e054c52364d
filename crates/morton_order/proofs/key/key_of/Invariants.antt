use Rattle.std.proofs.Common.{◌≡◌, ◌-◌, ◌/◌, ◌^◌}
use Rattle.morton_order.specs.Key.{interleaved}
use Rattle.morton_order.proofs.key.key_of.Given as goal

abbrev pub invariant-loop-done : goal.invariant-loop-done
invariant-loop-done l = l.key ≡ interleaved l.done (l.x / 2 ^ (26 - l.done)) (l.y / 2 ^ (26 - l.done)) (l.z / 2 ^ (26 - l.done))
