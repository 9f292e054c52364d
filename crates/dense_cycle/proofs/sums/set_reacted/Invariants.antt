use Rattle.std.proofs.Common.{◌≡◌, ℕ, ◌<◌, ◌≤◌, length}
use Rattle.std.specs.Prelude.{slice_index}
use Rattle.dense_cycle.specs.Sums.{flow_at, reacted_flow}
use Rattle.dense_cycle.proofs.sums.set_reacted.Given as goal

abbrev pub invariant-loop-i : goal.invariant-loop-i
invariant-loop-i l = record {
  as_many : length l.flows.items ≡ length l.initial.flows.items;
  done : (k : ℕ) → k < l.i → flow_at l.flows.items k ≡ reacted_flow (flow_at l.initial.flows.items k) (slice_index l.made k) (slice_index l.used k);
  rest : (k : ℕ) → l.i ≤ k → flow_at l.flows.items k ≡ flow_at l.initial.flows.items k;
}
