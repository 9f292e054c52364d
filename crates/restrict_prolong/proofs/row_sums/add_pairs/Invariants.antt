use Rattle.std.proofs.Common.{◌≡◌, ℕ, ◌+◌, ◌*◌, ◌<◌, ◌≤◌, get_or}
use Rattle.restrict_prolong.proofs.row_sums.add_pairs.Given as goal

abbrev pub invariant-loop-x : goal.invariant-loop-x
invariant-loop-x l = record {
  done : (k : ℕ) → k < l.x → get_or l.into k 0 ≡ get_or l.initial.into k 0 + get_or l.from (2 * k) 0 + get_or l.from (2 * k + 1) 0;
  rest : (k : ℕ) → l.x ≤ k → get_or l.into k 0 ≡ get_or l.initial.into k 0;
}
