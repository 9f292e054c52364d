use Rattle.std.proofs.Common.{length, ◌-◌, ◌≡◌, ◌<◌, ◌≤◌, None, ℕ}
use Rattle.cycle_tables.specs.Inside.{key_of}
use Rattle.cycle_tables.proofs.wire.first_from.Given as goal

abbrev pub invariant-loop-next : goal.invariant-loop-next
invariant-loop-next l = record { from : l.first ≤ l.next; within : l.next ≤ length l.keys; none : (k : ℕ) → l.first ≤ k → k < l.next → key_of l.keys k ≡ None }

abbrev pub decreases-loop-next : goal.decreases-loop-next
decreases-loop-next l = length l.keys - l.next
