use Rattle.std.proofs.Common.{◌≡◌, ℕ, ◌<◌, ◌≤◌, length}
use Rattle.cycle_sums.specs.Sums.{flow_at, flow_sum}
use Rattle.cycle_sums.proofs.sums.add_flows.Given as goal

abbrev pub invariant-loop-i : goal.invariant-loop-i
invariant-loop-i l = record {
  as_many : length l.flows.items ≡ length l.initial.flows.items;
  done : (k : ℕ) → k < l.i → flow_at l.flows.items k ≡ flow_sum (flow_at l.initial.flows.items k) (flow_at l.more k);
  rest : (k : ℕ) → l.i ≤ k → flow_at l.flows.items k ≡ flow_at l.initial.flows.items k;
}
