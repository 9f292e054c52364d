use Rattle.std.proofs.Common.{◌≡◌, ℕ, ◌<◌, length}
use Rattle.std.specs.List.{slice_index_or}
use Rattle.morton_order.specs.declared.space.Loc.{Loc}
use Rattle.block_tree.specs.Blocks.{leaves}
use Rattle.block_tree.specs.Nodes.{number_in}
use Rattle.dense_remesh.specs.Slots.{counter_at}
use Rattle.dense_remesh.proofs.carried.carried_counters.Given as goal

abbrev pub invariant-loop-leaf : goal.invariant-loop-leaf
invariant-loop-leaf l = record {
  count : length l.new.items ≡ l.leaf;
  each : (k x : ℕ) → k < l.leaf → (d : Loc) → slice_index_or l.new.items k x ≡ counter_at l.counters (number_in (leaves l.old) (slice_index_or (leaves l.next) k d));
}
