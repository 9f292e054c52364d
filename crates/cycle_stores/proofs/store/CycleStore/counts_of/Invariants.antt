use Rattle.std.proofs.Common.{◌≡◌, ◌+◌, ◌≤◌, drop, length, map, take, vec_capacity}
use Rattle.cell_block.specs.State.{idle_at}
use Rattle.cycle_stores.proofs.store.CycleStore.counts_of.Given as goal

abbrev pub invariant-loop-at : goal.invariant-loop-at
invariant-loop-at l = record {
  counted : l.counts.items ≡ map (idle_at l.self.state) (take l.at-index l.at-items);
  room : length l.counts.items + length (drop l.at-index l.at-items) ≤ vec_capacity l.counts;
}
