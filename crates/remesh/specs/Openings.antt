-- For the code: a mesh state in which the boxes of a problem are put.
use Rattle.std.specs.Prelude.{◌≡◌, ◌≢◌, ◌==◌, ℕ, ◌+◌, ◌*◌, ◌<◌, ◌≤◌, ◌^◌, ◌||◌, not, Bool, true, false, Option, Some, List, is_some}
use Rattle.std.specs.List.{filter}
use Rattle.morton_order.specs.declared.space.Loc.{Loc}
use Rattle.block_layout.specs.declared.layout.Layout.{Layout}
use Rattle.sparse_pool.specs.declared.place.Place.{Place}
use Rattle.sparse_pool.specs.Idle.{idle}
use Rattle.alloc_epochs.specs.Shelf.{place_on}
use Rattle.field_bufs.specs.declared.buf.FieldBuf.{FieldBuf}
use Rattle.problem_set.specs.Settings.{Settings}
use Rattle.deck_entries.specs.declared.entries.StartBox.{StartBox}
use Rattle.mesh_rules.specs.Fields.{is_sparse}
use Rattle.dense_remesh.specs.StartBoxes.{opening_list}
use Rattle.cell_block.specs.State.{Entry, HasLayout, Stored, entry_at, epoch_at, leaf_count}
use Rattle.cell_block.specs.Rules.{IsWhole, interior_in, interior_of, opening_entry}
use Rattle.remesh.specs.Carries.{buffer_of, idle_of_entry}
use Rattle.remesh.specs.Leaves.{leaf_on}
use Rattle.remesh.specs.Stores.{Fills, IsSameFrame}

-- the boxes of a field
abbrev pub boxes_of_field : List StartBox → ℕ → List StartBox
boxes_of_field boxes f = filter (λ (b : StartBox). b.field == f) boxes

-- an entry has what boxes put there of a field: what no block may go without is kept, and else what is not all zero
pub record IsOpenEntry (l : Layout) (sparse : Bool) (boxes : List StartBox) (at : Loc) (e : Option Entry) : Type 0 where
  pub own : interior_in l (buffer_of e) ≡ opening_list l.dims l.cells boxes at
  pub kept : is_some e ≡ (not sparse || not (idle (opening_list l.dims l.cells boxes at) 0))
  pub never_idle : idle_of_entry e ≡ 0
  pub stamps : (buf : FieldBuf) → buffer_of e ≡ Some buf → buf.stamp ≡ 0

-- what becomes of an entry where boxes put something, and where they put nothing
pub record IsOpenedEntry (l : Layout) (boxes : List StartBox) (at : Loc) (before after : Option Entry) : Type 0 where
  pub same : idle (opening_list l.dims l.cells boxes at) 0 ≡ true → after ≡ before
  pub changed : idle (opening_list l.dims l.cells boxes at) 0 ≡ false → (sparse : Bool) → IsOpenEntry l sparse boxes at after

-- a place was filled with a buffer that has these totals in its own cells
pub record IsFilledWith (l : Layout) (at : Place) (own : List ℕ) (old new : Stored) : Type 0 where
  pub buffer : FieldBuf
  pub stamp_is : buffer.stamp ≡ 0
  pub own_is : interior_of l buffer.cells ≡ own
  pub fills : Fills old new at buffer 0

-- a block was opened
pub record IsBlockOpened (l : Layout) (at : Place) (boxes : List StartBox) (old new : Stored) : Type 0 where
  pub frame : IsSameFrame old new
  pub whole : IsWhole new
  pub counters : new.counters ≡ old.counters
  pub here : IsOpenedEntry l boxes (leaf_on old.tree at.block) (entry_at old at) (entry_at new at)
  pub others : (other : Place) → other ≢ at → entry_at new other ≡ entry_at old other
  pub epochs : (list : ℕ) → epoch_at new list ≤ epoch_at old list + 1

-- a field can be opened in a mesh state: so far it is zero or not allocated
pub record CanOpen (p : Settings) (l : Layout) (f : ℕ) (m : Stored) : Type 0 where
  pub layout_is : HasLayout m l
  pub field : f < m.fields
  pub whole : IsWhole m
  pub entries : (k : ℕ) → k < leaf_count m → entry_at m (place_on k f) ≡ opening_entry p l k f
  pub epochs : (list : ℕ) → epoch_at m list ≤ 2 ^ 32

-- it was opened on the first so many leaves
pub record IsOpenedTo (p : Settings) (l : Layout) (f : ℕ) (boxes : List StartBox) (old new : Stored) (leaves : ℕ) : Type 0 where
  pub frame : IsSameFrame old new
  pub whole : IsWhole new
  pub counters : new.counters ≡ old.counters
  pub here : (k : ℕ) → k < leaves → IsOpenEntry l (is_sparse p f) boxes (leaf_on old.tree k) (entry_at new (place_on k f))
  pub later : (k : ℕ) → leaves ≤ k → entry_at new (place_on k f) ≡ entry_at old (place_on k f)
  pub others : (at : Place) → at.field ≢ f → entry_at new at ≡ entry_at old at
  pub epochs : (list : ℕ) → epoch_at new list ≤ epoch_at old list + leaves

-- the first so many fields were opened
pub record AreFieldsOpened (p : Settings) (l : Layout) (boxes : List StartBox) (start now : Stored) (fields : ℕ) : Type 0 where
  pub frame : IsSameFrame start now
  pub whole : IsWhole now
  pub counters : now.counters ≡ start.counters
  pub here : (k f : ℕ) → k < leaf_count start → f < fields → IsOpenEntry l (is_sparse p f) (boxes_of_field boxes f) (leaf_on start.tree k) (entry_at now (place_on k f))
  pub later : (k f : ℕ) → fields ≤ f → entry_at now (place_on k f) ≡ entry_at start (place_on k f)
  pub epochs : (list : ℕ) → epoch_at now list ≤ 65536 * fields
