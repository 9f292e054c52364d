use Rattle.std.proofs.Common.{◌≡◌, ℕ, ◌+◌, ◌<◌, ◌≤◌, get_or, length}
use Rattle.dense_cycle.proofs.sums.add_each.Given as goal

abbrev pub invariant-loop-i : goal.invariant-loop-i
invariant-loop-i l = record {
  as_many : length l.numbers.items ≡ length l.initial.numbers.items;
  done : (k : ℕ) → k < l.i → get_or l.numbers.items k 0 ≡ get_or l.initial.numbers.items k 0 + get_or l.more k 0;
  rest : (k : ℕ) → l.i ≤ k → get_or l.numbers.items k 0 ≡ get_or l.initial.numbers.items k 0;
}
