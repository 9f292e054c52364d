-- For the code: the shelves of all partitions, seen as one.
use Rattle.std.specs.Prelude.{◌≡◌, ℕ, ◌+◌, ◌*◌, ◌-◌, ◌/◌, ◌<◌, ◌≤◌, ◌&&◌, Bool, is_some, Option, Some, None, List, [], length, map, filter, flat_map, min, replicate, slice_index, slice_index_or, slice_set}
use Rattle.std.specs.List.{range_with_len}
use Rattle.mesh_rules.specs.Sums.{table}
use Rattle.sparse_pool.specs.declared.place.Place.{Place}
use Rattle.alloc_epochs.specs.Shelf.{Shelved, keys_of, no_keys, place_on, with_key}
use Rattle.alloc_epochs.specs.declared.finding.KeyedField.{KeyedField}

-- so many leaves in partitions of a size, and fields; by block and field the keys of what is allocated; and by partition how
-- often a place came or went, and how many places can come without memory
pub record OnShelves : Type 0 where
  pub size : ℕ
  pub leaves : ℕ
  pub fields : ℕ
  pub keys : List (List (Option ℕ))
  pub epochs : List ℕ
  pub spares : List ℕ

-- how many partitions there are
abbrev pub lists_of : ℕ → ℕ → ℕ
lists_of size leaves = (leaves + size - 1) / size

-- the key of a place
abbrev pub key_on : List (List (Option ℕ)) → Place → Option ℕ
key_on keys at = slice_index_or (slice_index_or keys at.block []) at.field None

-- the keys with one changed
abbrev pub with_key_on : List (List (Option ℕ)) → Place → Option ℕ → List (List (Option ℕ))
with_key_on keys at key = slice_set keys at.block (slice_set (slice_index_or keys at.block []) at.field key)

-- what a place that came or went leaves
abbrev pub with_place_on : OnShelves → Place → Option ℕ → OnShelves
with_place_on s at key = record s {
  keys = with_key_on s.keys at key;
  epochs = slice_set s.epochs (at.block / s.size) (slice_index s.epochs (at.block / s.size) + 1);
}

-- nothing is allocated
abbrev pub nothing_on : ℕ → ℕ → ℕ → OnShelves
nothing_on size leaves fields = record {
  size = size;
  leaves = leaves;
  fields = fields;
  keys = no_keys leaves fields;
  epochs = replicate (lists_of size leaves) 0;
  spares = replicate (lists_of size leaves) 0;
}

-- a place that there is
pub record IsPlace (s : OnShelves) (at : Place) : Type 0 where
  pub block : at.block < s.leaves
  pub field : at.field < s.fields

-- the places of a block that have a key and whose field passes
abbrev pub keyed_on : OnShelves → (ℕ → Bool) → ℕ → List Place
keyed_on s passes block = filter (λ at. is_some (key_on s.keys at) && passes at.field) (map (place_on block) (range_with_len 0 s.fields))

-- those of a partition
abbrev pub keyed_in : OnShelves → ℕ → (ℕ → Bool) → List Place
keyed_in s list passes = flat_map (keyed_on s passes) (range_with_len (list * s.size) (min s.size (s.leaves - list * s.size)))

-- the first field of a block from one on that has a key, and that none has
pub record IsNextOn (s : OnShelves) (block from : ℕ) (next : KeyedField) : Type 0 where
  pub after : from ≤ next.field
  pub within : next.field < s.fields
  pub has_key : key_on s.keys (place_on block next.field) ≡ Some next.key
  pub first : (f : ℕ) → from ≤ f → f < next.field → key_on s.keys (place_on block f) ≡ None

abbrev pub IsNoneOnFrom : OnShelves → ℕ → ℕ → Type 0
IsNoneOnFrom s block from = (f : ℕ) → from ≤ f → f < s.fields → key_on s.keys (place_on block f) ≡ None

-- a shelf to answer past the end
abbrev pub no_shelf : Shelved
no_shelf = record { first = 0; fields = 0; keys = []; epoch = 0; spare = 0 }

-- the shelf of a block, and its row there
abbrev pub shelf_of : ℕ → List Shelved → ℕ → Shelved
shelf_of size shelves block = slice_index_or shelves (block / size) no_shelf

abbrev pub row_on : ℕ → List Shelved → ℕ → List (Option ℕ)
row_on size shelves block = keys_of (shelf_of size shelves block) block

-- the shelves as one
abbrev pub on_shelves : ℕ → ℕ → ℕ → List Shelved → OnShelves
on_shelves size leaves fields shelves = record {
  size = size;
  leaves = leaves;
  fields = fields;
  keys = table leaves (row_on size shelves);
  epochs = map (λ (s : Shelved). s.epoch) shelves;
  spares = map (λ (s : Shelved). s.spare) shelves;
}

-- how many blocks a partition has
abbrev pub blocks_in : ℕ → ℕ → ℕ → ℕ
blocks_in size leaves list = min size (leaves - list * size)

-- a shelf is that of a partition
pub record IsShelfOf (size leaves fields list : ℕ) (s : Shelved) : Type 0 where
  pub first : s.first ≡ list * size
  pub numbers : s.fields ≡ fields
  pub blocks : length s.keys ≡ blocks_in size leaves list
  pub rows : (row : ℕ) → row < length s.keys → length (slice_index_or s.keys row []) ≡ fields

-- the shelves are those of all partitions
pub record AreShelves (size leaves fields : ℕ) (shelves : List Shelved) : Type 0 where
  pub some : 1 ≤ size
  pub most : size ≤ 65536
  pub few_leaves : leaves ≤ 65536
  pub few_fields : fields ≤ 256
  pub count : length shelves ≡ lists_of size leaves
  pub each : (list : ℕ) → list < length shelves → IsShelfOf size leaves fields list (slice_index_or shelves list no_shelf)

-- the empty shelf of a partition
abbrev pub new_shelf : ℕ → ℕ → ℕ → ℕ → Shelved
new_shelf size leaves fields list = record { first = list * size; fields = fields; keys = no_keys (blocks_in size leaves list) fields; epoch = 0; spare = 0 }

-- a shelf that counts from 0 again
abbrev pub restarted : Shelved → Shelved
restarted s = record s { epoch = 0 }

-- a shelf of which one place came or went
pub record IsChanged (s new : Shelved) (at : Place) (key : Option ℕ) : Type 0 where
  pub first : new.first ≡ s.first
  pub numbers : new.fields ≡ s.fields
  pub keys : new.keys ≡ with_key s at key
  pub epoch : new.epoch ≡ s.epoch + 1

-- the shapes of the lists
pub record IsOnShelves (s : OnShelves) : Type 0 where
  pub some : 1 ≤ s.size
  pub few_leaves : s.leaves ≤ 65536
  pub few_fields : s.fields ≤ 256
  pub blocks : length s.keys ≡ s.leaves
  pub rows : (block : ℕ) → block < s.leaves → length (slice_index_or s.keys block []) ≡ s.fields
  pub epochs_long : length s.epochs ≡ lists_of s.size s.leaves
  pub spares_long : length s.spares ≡ lists_of s.size s.leaves
