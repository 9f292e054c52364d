-- For the code: the shelves and the slab of buffers, seen as what is kept at each place.
use Rattle.std.specs.Prelude.{true, false, ◌*◌, ◌^◌, Bool, filter, flat_map, ◌≡◌, ◌≢◌, ◌&&◌, cond, nat_eq, nat_lt, ℕ, ◌+◌, ◌-◌, ◌/◌, ◌<◌, ◌≤◌, Option, None, Some, is_some, List, [], length, map, min, count_by, slice_index, slice_index_or, slice_set, IsSomeAnd, replicate}
use Rattle.std.specs.Option.{ForSome, option_map, option_and_then}
use Rattle.std.specs.List.{range_with_len}
use Rattle.alloc_epochs.specs.Shelf.{place_on}
use Rattle.slab.specs.Slab.{Slab, get, slab_len}
use Rattle.sparse_pool.specs.declared.place.Place.{Place}
use Rattle.field_bufs.specs.declared.buf.FieldBuf.{FieldBuf}
use Rattle.cell_block.specs.State.{Entry, entry_in, stamped, with_entry}
use Rattle.cell_block.specs.Partitions.{OnShelves, key_on, lists_of}
use Rattle.cell_block.specs.declared.kept.Kept.{Kept}

-- so many leaves in partitions of a size, and fields; by block and field what is kept; and by partition how often a place came
-- or went, and how many places can come without memory
pub record Placed : Type 0 where
  pub size : ℕ
  pub leaves : ℕ
  pub fields : ℕ
  pub places : List (List (Option Entry))
  pub epochs : List ℕ
  pub spares : List ℕ

-- what is kept under a key
abbrev pub entry_of : Kept → Entry
entry_of k = record { idle = k.idle; buf = k.buf }

abbrev pub kept_under : Slab Kept → Option ℕ → Option Kept
kept_under slab key = option_and_then (get slab) key

abbrev pub buf_under : Slab Kept → ℕ → Option FieldBuf
buf_under slab key = option_and_then (λ (k : Kept). k.buf) (get slab key)

abbrev pub entry_under : Slab Kept → Option ℕ → Option Entry
entry_under slab key = option_map entry_of (kept_under slab key)

-- how many more a slab takes without memory
abbrev pub room_in : Slab Kept → ℕ
room_in slab = slab.capacity - slab_len slab

-- shelves and slab as one
abbrev pub placed : OnShelves → Slab Kept → Placed
placed s slab = record {
  size = s.size;
  leaves = s.leaves;
  fields = s.fields;
  places = map (map (entry_under slab)) s.keys;
  epochs = s.epochs;
  spares = map (min (room_in slab)) s.spares;
}

-- whether something is kept at a place
abbrev pub is_kept_at : Placed → Place → Bool
is_kept_at s at = is_some (entry_in s.places at)

-- the first field of a block from one on of which something is kept, and that there is none
pub record IsNextKept (s : Placed) (block from next : ℕ) : Type 0 where
  pub after : from ≤ next
  pub within : next < s.fields
  pub there : is_kept_at s (place_on block next) ≡ true
  pub first : (f : ℕ) → from ≤ f → f < next → is_kept_at s (place_on block f) ≡ false

abbrev pub IsNoneKept : Placed → ℕ → ℕ → Type 0
IsNoneKept s block from = (f : ℕ) → from ≤ f → f < s.fields → is_kept_at s (place_on block f) ≡ false

-- on how many blocks a field has a key
abbrev pub keys_with : List (List (Option ℕ)) → ℕ → ℕ
keys_with keys f = count_by (λ (row : List (Option ℕ)). is_some (slice_index_or row f None)) keys

-- what is kept under the key of a place is of that place, and what is kept at all is kept under the key of its place
pub record AreTied (s : OnShelves) (slab : Slab Kept) : Type 0 where
  pub kept : (at : Place) (key : ℕ) → key_on s.keys at ≡ Some key → IsSomeAnd (get slab key) (λ k. k.at ≡ at)
  pub keyed : (key : ℕ) (k : Kept) → get slab key ≡ Some k → key_on s.keys k.at ≡ Some key

-- and the number of blocks of each field is counted
pub record AreKept (s : OnShelves) (slab : Slab Kept) (counts : List ℕ) : Type 0 where
  pub tied : AreTied s slab
  pub fields : length counts ≡ s.fields
  pub counted : (f : ℕ) → f < s.fields → slice_index counts f ≡ keys_with s.keys f

-- a place that came or went
abbrev pub with_come : Placed → Place → Option Entry → Placed
with_come s at entry = record s {
  places = with_entry s.places at entry;
  epochs = slice_set s.epochs (at.block / s.size) (slice_index s.epochs (at.block / s.size) + 1);
}

-- nothing is kept
abbrev pub nothing_placed : ℕ → ℕ → ℕ → Placed
nothing_placed size leaves fields = record {
  size = size;
  leaves = leaves;
  fields = fields;
  places = replicate leaves (replicate fields None);
  epochs = replicate (lists_of size leaves) 0;
  spares = replicate (lists_of size leaves) 0;
}

-- the shapes of the lists
pub record IsPlaced (s : Placed) : Type 0 where
  pub some : 1 ≤ s.size
  pub few_leaves : s.leaves ≤ 65536
  pub few_fields : s.fields ≤ 256
  pub blocks : length s.places ≡ s.leaves
  pub rows : (block : ℕ) → block < s.leaves → length (slice_index_or s.places block []) ≡ s.fields
  pub epochs_long : length s.epochs ≡ lists_of s.size s.leaves
  pub spares_long : length s.spares ≡ lists_of s.size s.leaves

-- what is kept with a buffer that was stamped once more; and so for the fields of a block below one
abbrev pub stamped_kept : Kept → Kept
stamped_kept k = record k { buf = option_map stamped k.buf }

abbrev pub stamped_below : ℕ → ℕ → Kept → Kept
stamped_below block f k = cond (nat_eq k.at.block block && nat_lt k.at.field f) (stamped_kept k) k

-- each stamp of a block's buffers can rise
abbrev pub HaveRoomForStamp : ℕ → Slab Kept → Type 0
HaveRoomForStamp block slab = (key : ℕ) (k : Kept) → get slab key ≡ Some k → k.at.block ≡ block → ForSome k.buf (λ buf. buf.stamp < 2 ^ 32 - 1)

-- what is kept at the places of a block is so
pub record AreStamped (block : ℕ) (old new : Slab Kept) : Type 0 where
  pub room : room_in new ≡ room_in old
  pub others : (key : ℕ) (k : Kept) → get old key ≡ Some k → k.at.block ≢ block → get new key ≡ Some k
  pub block_ones : (key : ℕ) (k : Kept) → get old key ≡ Some k → k.at.block ≡ block → get new key ≡ Some (stamped_kept k)
  pub nothing : (key : ℕ) → get old key ≡ None → get new key ≡ None

-- the places of a block that are kept and whose field passes, and those of a partition
abbrev pub listed_on_block : Placed → (ℕ → Bool) → ℕ → List Place
listed_on_block s passes block = filter (λ at. is_some (entry_in s.places at) && passes at.field) (map (place_on block) (range_with_len 0 s.fields))

abbrev pub listed_in : Placed → ℕ → (ℕ → Bool) → List Place
listed_in s list passes = flat_map (listed_on_block s passes) (range_with_len (list * s.size) (min s.size (s.leaves - list * s.size)))
