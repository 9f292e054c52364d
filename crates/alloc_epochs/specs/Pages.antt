-- The keys of a block in pages. This serves the private contracts of the crate: a shelf itself is `Shelf`.
use Rattle.std.specs.Prelude.{◌≡◌, ◌≢◌, ℕ, ◌+◌, ◌/◌, ◌%◌, Bool, ◌||◌, nat_eq, Option, None, List, [], length, map, replicate, slice_index_or}
use Rattle.std.specs.List.{range_with_len}

-- a page has an entry for each of 32 fields that follow one another, or it is empty where none of them has a key
abbrev pub is_page : List (Option ℕ) → Bool
is_page page = nat_eq (length page) 0 || nat_eq (length page) 32

-- a page that is there and has no key
abbrev pub blank : List (Option ℕ)
blank = replicate 32 None

-- how many pages the fields of a block take: 2 for 33 fields
abbrev pub pages_for : ℕ → ℕ
pages_for fields = (fields + 31) / 32

-- the key of a field
abbrev pub key_in : List (List (Option ℕ)) → ℕ → Option ℕ
key_in pages field = slice_index_or (slice_index_or pages (field / 32) []) (field % 32) None

-- the keys of all fields
abbrev pub keys_in : ℕ → List (List (Option ℕ)) → List (Option ℕ)
keys_in fields pages = map (key_in pages) (range_with_len 0 fields)

-- the pages hold for one field this, and for the others what they held
pub record Changes (old new : List (List (Option ℕ))) (field : ℕ) (key : Option ℕ) : Type 0 where
  pub changed : key_in new field ≡ key
  pub others : (other : ℕ) → other ≢ field → key_in new other ≡ key_in old other
  pub as_many : length new ≡ length old
