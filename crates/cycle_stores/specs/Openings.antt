-- What stands in a store as a cycle begins.
use Rattle.std.specs.Prelude.{◌≡◌, ◌≢◌, ℕ, Some, replicate}
use Rattle.sparse_pool.specs.declared.place.Place.{Place}
use Rattle.block_layout.specs.declared.layout.Layout.{Layout}
use Rattle.block_layout.specs.Faces.{face_count}
use Rattle.cell_boxes.specs.Boxes.{StaysOffBox}
use Rattle.block_layout.specs.Layouts.{len}
use Rattle.field_bufs.specs.declared.buf.FieldBuf.{FieldBuf}
use Rattle.cell_block.specs.State.{HasLayout, Stored, buffer_at, entry_at, idle_at, is_allocated, is_lent, list_count, place_of}
use Rattle.cell_block.specs.Rules.{IsWhole, interior_of}
use Rattle.cell_block.specs.Whole.{extents_of, interior_box}
use Rattle.cycle_stores.specs.declared.store.CycleStore.{CycleStore}
use Rattle.cycle_stores.specs.Stores.{IsStore, is_kept}

-- a buffer has the own totals of another one, with nothing in its ghosts and through its faces, and was not changed yet
pub record IsFresh (l : Layout) (was buf : FieldBuf) : Type 0 where
  pub place : place_of buf ≡ place_of was
  pub stamp : buf.stamp ≡ 0
  pub own : interior_of l buf.cells ≡ interior_of l was.cells
  pub rest : StaysOffBox (extents_of l) (interior_box l) (replicate (len l) 0) buf.cells
  pub right : buf.right ≡ replicate (face_count l) 0
  pub left : buf.left ≡ replicate (face_count l) 0

-- a place has such a buffer, and its idle count; or nothing stands there still
pub record IsFreshAt (old new : Stored) (at : Place) : Type 0 where
  pub allocated : is_allocated new at ≡ is_allocated old at
  pub home : is_lent new at ≡ is_lent old at
  pub idle : idle_at new at ≡ idle_at old at
  pub fresh : (l : Layout) (was buf : FieldBuf) → HasLayout old l → buffer_at old at ≡ Some was → buffer_at new at ≡ Some buf →
      IsFresh l was buf

-- the same mesh, with other things at its places
abbrev pub IsSameMesh : Stored → Stored → Type 0
IsSameMesh old new = new ≡ record old { places = new.places }

-- one place has a fresh buffer; so have all places of a block; so have all places, and the epochs are 0
pub record IsFreshPlace (old new : Stored) (at : Place) : Type 0 where
  pub mesh : IsSameMesh old new
  pub here : IsFreshAt old new at
  pub others : (other : Place) → other ≢ at → entry_at new other ≡ entry_at old other

pub record OpensBlock (old new : Stored) (block : ℕ) : Type 0 where
  pub mesh : IsSameMesh old new
  pub whole : IsWhole new
  pub here : (at : Place) → at.block ≡ block → IsFreshAt old new at
  pub others : (at : Place) → at.block ≢ block → entry_at new at ≡ entry_at old at

pub record IsFreshState (old new : Stored) : Type 0 where
  pub mesh : new ≡ record old { places = new.places; epochs = replicate (list_count old) 0 }
  pub fresh : (at : Place) → IsFreshAt old new at

-- a store of a mesh state: all its buffers are fresh, all epochs are 0, and what is allocated is kept
pub record IsOpened (s : Stored) (v : CycleStore) : Type 0 where
  pub state : IsFreshState s v.state
  pub store : IsStore v
  pub kept : (at : Place) → is_kept v.kept at ≡ is_allocated s at
