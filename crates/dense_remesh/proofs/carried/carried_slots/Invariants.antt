use Rattle.std.proofs.Common.{◌≡◌, ℕ, ◌<◌, List, [], length, map}
use Rattle.std.specs.List.{slice_index_or}
use Rattle.morton_order.specs.Space.{parts}
use Rattle.dense_mesh.specs.declared.totals.Slot.{Slot}
use Rattle.dense_remesh.specs.Slots.{carried_slot}
use Rattle.dense_remesh.proofs.carried.carried_slots.Given as goal

abbrev pub invariant-loop-f : goal.invariant-loop-f
invariant-loop-f l = record {
  count : length l.new.items ≡ l.f;
  each : (k : ℕ) (x : List Slot) → k < l.f → slice_index_or l.new.items k x ≡ map (carried_slot (parts l.dims) (slice_index_or l.slots k [])) l.origins.items;
}
