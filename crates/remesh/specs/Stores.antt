-- For the code: a mesh state in which places are filled.
use Rattle.std.specs.Prelude.{◌≡◌, ◌≢◌, ℕ, ◌+◌, ◌<◌, ◌≤◌, ◌^◌, false, Some, None}
use Rattle.sparse_pool.specs.declared.place.Place.{Place}
use Rattle.alloc_epochs.specs.Shelf.{place_on}
use Rattle.field_bufs.specs.declared.buf.FieldBuf.{FieldBuf}
use Rattle.cell_block.specs.State.{Entry, HasLayout, Stored, entry_at, epoch_at, leaf_count}
use Rattle.cell_block.specs.Rules.{IsWhole}
use Rattle.remesh.specs.Leaves.{LeafOf}
use Rattle.remesh.specs.Fields.{IsPlaceOf, comes}

-- the same tree, blocks, fields and partitions
pub record IsSameFrame (old new : Stored) : Type 0 where
  pub tree : new.tree ≡ old.tree
  pub dims : new.dims ≡ old.dims
  pub cells : new.cells ≡ old.cells
  pub fields : new.fields ≡ old.fields
  pub size : new.size ≡ old.size

-- a place was filled
pub record Fills (old new : Stored) (at : Place) (buf : FieldBuf) (idle : ℕ) : Type 0 where
  pub frame : IsSameFrame old new
  pub here : entry_at new at ≡ Some (record { idle = idle; buf = Some buf })
  pub others : (other : Place) → other ≢ at → entry_at new other ≡ entry_at old other
  pub counters : new.counters ≡ old.counters
  pub epochs : (list : ℕ) → epoch_at new list ≤ epoch_at old list + 1

-- a mesh state in which a leaf can be filled: of its fields at most those that come to it are allocated
pub record CanStore (n : LeafOf) (m : Stored) : Type 0 where
  pub leaf : n.number < leaf_count m
  pub fields : m.fields ≡ n.old.fields
  pub layout_is : HasLayout m n.layout
  pub whole : IsWhole m
  pub absent : (f : ℕ) → f < m.fields → comes n f ≡ false → entry_at m (place_on n.number f) ≡ None
  pub epochs : (list : ℕ) → epoch_at m list ≤ 2 ^ 32

-- the leaf was filled
pub record IsLeafStored (n : LeafOf) (old new : Stored) : Type 0 where
  pub frame : IsSameFrame old new
  pub whole : IsWhole new
  pub here : (f : ℕ) → f < old.fields → IsPlaceOf n f (entry_at new (place_on n.number f))
  pub others : (at : Place) → at.block ≢ n.number → entry_at new at ≡ entry_at old at
  pub epochs : (list : ℕ) → epoch_at new list ≤ epoch_at old list + 256
