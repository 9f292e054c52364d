use Rattle.std.proofs.Common.{◌≡◌, ℕ, ◌<◌, ◌≤◌, length}
use Rattle.dense_cycle.specs.Sums.{flow_at, flow_with, passed_at}
use Rattle.dense_cycle.proofs.sums.add_passed.Given as goal

abbrev pub invariant-loop-i : goal.invariant-loop-i
invariant-loop-i l = record {
  as_many : length l.flows.items ≡ length l.initial.flows.items;
  done : (k : ℕ) → k < l.i → flow_at l.flows.items k ≡ flow_with (flow_at l.initial.flows.items k) (passed_at l.passed k);
  rest : (k : ℕ) → l.i ≤ k → flow_at l.flows.items k ≡ flow_at l.initial.flows.items k;
}
