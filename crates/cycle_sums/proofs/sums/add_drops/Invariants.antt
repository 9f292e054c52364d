use Rattle.std.proofs.Common.{◌≡◌, ℕ, ◌+◌, ◌<◌, ◌≤◌, get_or, length}
use Rattle.cycle_sums.proofs.sums.add_drops.Given as goal

abbrev pub invariant-loop-i : goal.invariant-loop-i
invariant-loop-i l = record {
  as_many : length l.drops.items ≡ length l.initial.drops.items;
  done : (k : ℕ) → k < l.i → get_or l.drops.items k 0 ≡ get_or l.initial.drops.items k 0 + get_or l.more k 0;
  rest : (k : ℕ) → l.i ≤ k → get_or l.drops.items k 0 ≡ get_or l.initial.drops.items k 0;
}
