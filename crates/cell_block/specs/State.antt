-- What contracts see of a mesh state: what is kept of each field on each block, and which parts of that may be lent.
use Rattle.std.specs.Prelude.{◌≡◌, ℕ, ◌+◌, ◌*◌, ◌-◌, ◌/◌, ◌<◌, ◌≤◌, Bool, true, false, ◌&&◌, is_some, is_none, Option, Some, None, List, [], length, map, filter, flat_map, min, unwrap_or, count_by, slice_index, slice_index_or, slice_set}
use Rattle.std.specs.List.{range_with_len}
use Rattle.std.specs.Option.{option_map, option_and_then}
use Rattle.block_tree.specs.Blocks.{IsBlockTree, TreeOfBlocks, leaves}
use Rattle.block_layout.specs.declared.layout.Layout.{Layout}
use Rattle.sparse_pool.specs.declared.place.Place.{Place}
use Rattle.alloc_epochs.specs.Shelf.{place_on}
use Rattle.field_bufs.specs.declared.buf.FieldBuf.{FieldBuf}
use Rattle.field_bufs.specs.Buffers.{HasSizes}

-- what is kept of a field on a block where it is allocated: at how many checks in a row it was idle there, and its buffer,
-- or nothing while that is lent
pub record Entry : Type 0 where
  pub idle : ℕ
  pub buf : Option FieldBuf

-- a mesh state: its tree; the axes in use and the cells of a block along each axis; how many fields there are, and how many
-- leaves a partition has; by block and field what is kept, or nothing where the field is not allocated; the tag counter of
-- each leaf; and by partition how often a place came or went, and how many places can come without memory
pub record Stored : Type 0 where
  pub tree : TreeOfBlocks
  pub dims : ℕ
  pub cells : List ℕ
  pub fields : ℕ
  pub size : ℕ
  pub places : List (List (Option Entry))
  pub counters : List ℕ
  pub epochs : List ℕ
  pub spares : List ℕ

-- how many leaves there are
abbrev pub leaf_count : Stored → ℕ
leaf_count s = length (leaves s.tree)

-- the partition of a leaf, and how many there are
abbrev pub list_of : Stored → ℕ → ℕ
list_of s leaf = leaf / s.size

abbrev pub list_count : Stored → ℕ
list_count s = (leaf_count s + s.size - 1) / s.size

-- a place: a leaf and a field that there are
pub record IsIn (s : Stored) (at : Place) : Type 0 where
  pub block : at.block < leaf_count s
  pub field : at.field < s.fields

-- the layout is that of the blocks
pub record HasLayout (s : Stored) (l : Layout) : Type 0 where
  pub dims : l.dims ≡ s.dims
  pub cells : l.cells ≡ s.cells

-- what is kept in some places of a field on a block, or nothing where it is not allocated
abbrev pub entry_in : List (List (Option Entry)) → Place → Option Entry
entry_in places at = slice_index_or (slice_index_or places at.block []) at.field None

abbrev pub entry_at : Stored → Place → Option Entry
entry_at s at = entry_in s.places at

-- its buffer, or nothing where it is not allocated or lent
abbrev pub buffer_in : List (List (Option Entry)) → Place → Option FieldBuf
buffer_in places at = option_and_then (λ (e : Entry). e.buf) (entry_in places at)

-- whether a field is allocated on a block
abbrev pub is_allocated : Stored → Place → Bool
is_allocated s at = is_some (entry_at s at)

-- its buffer there, or nothing where it is not allocated or lent
abbrev pub buffer_at : Stored → Place → Option FieldBuf
buffer_at s at = buffer_in s.places at

-- whether it is allocated and lent
abbrev pub is_lent : Stored → Place → Bool
is_lent s at = is_allocated s at && is_none (buffer_at s at)

-- at how many checks in a row it was idle; 0 where it is not allocated
abbrev pub idle_at : Stored → Place → ℕ
idle_at s at = unwrap_or (option_map (λ (e : Entry). e.idle) (entry_at s at)) 0

-- the first field from one on that is allocated on a block
pub record IsNextField (s : Stored) (block from next : ℕ) : Type 0 where
  pub after : from ≤ next
  pub within : next < s.fields
  pub there : is_allocated s (place_on block next) ≡ true
  pub first : (f : ℕ) → from ≤ f → f < next → is_allocated s (place_on block f) ≡ false

-- and that none is
abbrev pub IsNoneFrom : Stored → ℕ → ℕ → Type 0
IsNoneFrom s block from = (f : ℕ) → from ≤ f → f < s.fields → is_allocated s (place_on block f) ≡ false

-- on how many blocks a field is allocated
abbrev pub count_in : List (List (Option Entry)) → ℕ → ℕ
count_in places field = count_by (λ (row : List (Option Entry)). is_some (slice_index_or row field None)) places

abbrev pub count_on : Stored → ℕ → ℕ
count_on s field = count_in s.places field

-- how often a place of a partition came or went since the last restart, and how many places can come without memory
abbrev pub epoch_at : Stored → ℕ → ℕ
epoch_at s list = slice_index s.epochs list

abbrev pub spare_at : Stored → ℕ → ℕ
spare_at s list = slice_index s.spares list

-- the place of a buffer
abbrev pub place_of : FieldBuf → Place
place_of buf = record { block = buf.block; field = buf.field }

-- a buffer has lists of the right lengths
abbrev pub Fits : Stored → FieldBuf → Type 0
Fits s buf = (l : Layout) → HasLayout s l → HasSizes l buf

-- the places with one changed
abbrev pub with_entry : List (List (Option Entry)) → Place → Option Entry → List (List (Option Entry))
with_entry places at entry = slice_set places at.block (slice_set (slice_index_or places at.block []) at.field entry)

-- the state in which a place came or went: what is kept there is this now, and the epoch of its partition rose by one
abbrev pub with_change : Stored → Place → Option Entry → Stored
with_change s at entry = record s {
  places = with_entry s.places at entry;
  epochs = slice_set s.epochs (list_of s at.block) (epoch_at s (list_of s at.block) + 1);
}

-- the places with another buffer of an allocated field, or with none where it is lent; and the state
abbrev pub buffer_set : List (List (Option Entry)) → Place → Option FieldBuf → List (List (Option Entry))
buffer_set places at buf = with_entry places at (option_map (λ (e : Entry). record e { buf = buf }) (entry_in places at))

abbrev pub with_buffer : Stored → Place → Option FieldBuf → Stored
with_buffer s at buf = record s { places = buffer_set s.places at buf }

-- the places with another idle count of an allocated field; and the state
abbrev pub idle_set : List (List (Option Entry)) → Place → ℕ → List (List (Option Entry))
idle_set places at idle = with_entry places at (option_map (λ (e : Entry). record e { idle = idle }) (entry_in places at))

abbrev pub with_idle : Stored → Place → ℕ → Stored
with_idle s at idle = record s { places = idle_set s.places at idle }

-- a buffer whose block was changed once more, and what is kept with it
abbrev pub stamped : FieldBuf → FieldBuf
stamped buf = record buf { stamp = buf.stamp + 1 }

abbrev pub stamped_entry : Entry → Entry
stamped_entry e = record e { buf = option_map stamped e.buf }

-- the places in which the stamps of a block's buffers rose by one; and the state
abbrev pub stamps_raised : List (List (Option Entry)) → ℕ → List (List (Option Entry))
stamps_raised places block = slice_set places block (map (option_map stamped_entry) (slice_index_or places block []))

abbrev pub with_stamps : Stored → ℕ → Stored
with_stamps s block = record s { places = stamps_raised s.places block }

-- the first leaf of a partition, and how many it has
abbrev pub first_of : Stored → ℕ → ℕ
first_of s list = list * s.size

abbrev pub leaves_in : Stored → ℕ → ℕ
leaves_in s list = min s.size (leaf_count s - first_of s list)

-- the places of a block that are allocated and whose field passes, by field
abbrev pub listed_on : Stored → (ℕ → Bool) → ℕ → List Place
listed_on s passes block = filter (λ at. is_allocated s at && passes at.field) (map (place_on block) (range_with_len 0 s.fields))

-- the places of a partition that are allocated and whose field passes, by block, then field
abbrev pub listed : Stored → ℕ → (ℕ → Bool) → List Place
listed s list passes = flat_map (listed_on s passes) (range_with_len (first_of s list) (leaves_in s list))

-- what each mesh state keeps: a row of places for each leaf and in it one for each field, each buffer at its own place and
-- with lists of the right lengths, a counter for each leaf, and for each partition an epoch and a number of spare places
pub record IsStored (s : Stored) : Type 0 where
  pub tree : IsBlockTree s.tree
  pub few_fields : s.fields ≤ 256
  pub some_leaves : 1 ≤ s.size
  pub blocks : length s.places ≡ leaf_count s
  pub fields : (block : ℕ) → block < leaf_count s → length (slice_index_or s.places block []) ≡ s.fields
  pub own : (at : Place) (buf : FieldBuf) → buffer_at s at ≡ Some buf → place_of buf ≡ at
  pub fit : (at : Place) (buf : FieldBuf) → buffer_at s at ≡ Some buf → Fits s buf
  pub counters : length s.counters ≡ leaf_count s
  pub epochs : length s.epochs ≡ list_count s
  pub spares : length s.spares ≡ list_count s
