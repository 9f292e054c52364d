-- What contracts see of a store: which places are kept, and what stands in it once buffers were lent.
use Rattle.std.specs.Prelude.{◌≡◌, ℕ, ◌<◌, ◌&&◌, ◌||◌, not, Bool, Option, None, IsSome, is_some, List, [], ◌∷◌, length, slice_index_or}
use Rattle.std.specs.List.{list_any}
use Rattle.sparse_pool.specs.declared.place.Place.{Place}
use Rattle.alloc_epochs.specs.Shelf.{Shelved, key_at}
use Rattle.pack_cache.specs.Packs.{same_place}
use Rattle.field_bufs.specs.declared.buf.FieldBuf.{FieldBuf}
use Rattle.cell_block.specs.State.{Entry, Stored, buffer_in, buffer_set, leaf_count}
use Rattle.cycle_stores.specs.declared.store.CycleStore.{CycleStore}

-- the rows and columns of what is stored: by block and field what is kept there, or nothing
abbrev pub Grid : Type 0
Grid = List (List (Option Entry))

-- whether a place is kept; whether it is among some
abbrev pub is_kept : Shelved → Place → Bool
is_kept shelf at = is_some (key_at shelf at)

abbrev pub is_among : List Place → Place → Bool
is_among places at = list_any (same_place at) places

-- a shelf that begins with the first block, and has a place for each field of each of its blocks
pub record IsShelf (shelf : Shelved) : Type 0 where
  pub first : shelf.first ≡ 0
  pub rows : (row : ℕ) → row < length shelf.keys → length (slice_index_or shelf.keys row []) ≡ shelf.fields

-- the shelf has a row for each leaf, and in it a place for each field
pub record IsShelfFor (s : Stored) (shelf : Shelved) : Type 0 where
  pub shaped : IsShelf shelf
  pub numbers : shelf.fields ≡ s.fields
  pub blocks : length shelf.keys ≡ leaf_count s

-- the parts of a store fit
pub record IsStore (v : CycleStore) : Type 0 where
  pub same_size : v.size ≡ v.state.size
  pub shelf : IsShelfFor v.state v.kept

-- a shelf of the same blocks and fields
pub record IsLikeShelf (old new : Shelved) : Type 0 where
  pub shaped : IsShelf new
  pub numbers : new.fields ≡ old.fields
  pub blocks : length new.keys ≡ length old.keys

-- some places are kept besides, and some are no more; and both, one after the other
pub record AreKeptToo (old new : Shelved) (places : List Place) : Type 0 where
  pub like : IsLikeShelf old new
  pub kept : (at : Place) → is_kept new at ≡ (is_kept old at || is_among places at)

pub record AreKeptNoMore (old new : Shelved) (places : List Place) : Type 0 where
  pub like : IsLikeShelf old new
  pub kept : (at : Place) → is_kept new at ≡ (is_kept old at && not (is_among places at))

pub record HaveChanged (old new : Shelved) (keeps freed : List Place) : Type 0 where
  pub like : IsLikeShelf old new
  pub kept : (at : Place) →
      is_kept new at ≡ ((is_kept old at || is_among keeps at) && not (is_among freed at))

-- what stands where once the buffers of some places were lent, one after another
abbrev pub lent_in : Grid → List Place → Grid
lent_in grid [] = grid
lent_in grid (at ∷ rest) = lent_in (buffer_set grid at None) rest

-- and these buffers
abbrev pub taken_in : Grid → List Place → List (Option FieldBuf)
taken_in grid [] = []
taken_in grid (at ∷ rest) = buffer_in grid at ∷ taken_in (buffer_set grid at None) rest

-- each has its buffer when its turn comes
abbrev pub CanLend : Grid → List Place → Type 0
CanLend grid [] = Unit {0}
CanLend grid (at ∷ rest) = IsSome (buffer_in grid at) × CanLend (buffer_set grid at None) rest
