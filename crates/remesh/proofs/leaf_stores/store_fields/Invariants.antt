use Rattle.std.proofs.Common.{◌≡◌, ◌≢◌, ℕ, ◌+◌, ◌<◌, ◌≤◌, false, All, length}
use Rattle.sparse_pool.specs.declared.place.Place.{Place}
use Rattle.alloc_epochs.specs.Shelf.{place_on}
use Rattle.cell_block.specs.State.{entry_at, epoch_at}
use Rattle.cell_block.specs.Rules.{IsWhole}
use Rattle.remesh.specs.Fields.{IsOnLeaf, IsPlaceOf, has_buffer}
use Rattle.remesh.specs.Stores.{IsSameFrame}
use Rattle.remesh.specs.Leaves.{plain}
use Rattle.remesh.proofs.leaf_stores.store_fields.Given as goal

abbrev pub invariant-loop-buf : goal.invariant-loop-buf
invariant-loop-buf l = record {
  frame : IsSameFrame l.fn.mesh l.mesh;
  whole : IsWhole l.mesh;
  counters : l.mesh.counters ≡ l.fn.mesh.counters;
  shaped : All (IsOnLeaf (plain l.leaf)) l.bufs.items;
  filled : (f : ℕ) → f < l.fn.mesh.fields → has_buffer l.bufs.items f ≡ false → IsPlaceOf (plain l.leaf) f (entry_at l.mesh (place_on l.leaf.number f));
  others : (at : Place) → at.block ≢ l.leaf.number → entry_at l.mesh at ≡ entry_at l.fn.mesh at;
  epochs : (list : ℕ) → epoch_at l.mesh list + length l.bufs.items ≤ epoch_at l.fn.mesh list + 256;
}

abbrev pub decreases-loop-buf : goal.decreases-loop-buf
decreases-loop-buf l = length l.bufs.items
