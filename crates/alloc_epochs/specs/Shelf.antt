-- What contracts see of a shelf.
use Rattle.std.specs.Prelude.{◌≡◌, ℕ, ◌+◌, ◌-◌, ◌<◌, ◌≤◌, Bool, true, false, ◌&&◌, cond, nat_lt, is_some, Option, None, Some, List, [], length, map, filter, flat_map, replicate, slice_index_or, slice_set}
use Rattle.std.specs.List.{range_with_len}
use Rattle.sparse_pool.specs.declared.place.Place.{Place}
use Rattle.sparse_pool.specs.declared.place.PackKind.{PackKind}
use Rattle.sparse_pool.specs.declared.place.PackKind.TheVariants.{All, Ghost, Flux}
use Rattle.alloc_epochs.specs.declared.finding.KeyedField.{KeyedField}
use Rattle.package_fields.specs.declared.field.Field.{Field}
use Rattle.package_fields.specs.declared.flag.Flag.{Flag}
use Rattle.package_fields.specs.declared.flag.Flag.TheVariants.{FillGhost, WithFluxes}
use Rattle.package_fields.specs.Flags.{has}

-- blocks that follow one another from the first on, with a key or nothing for each field of each;
-- how often a place came or went since the last restart; and how many places can come without memory
pub record Shelved : Type 0 where
  pub first : ℕ
  pub fields : ℕ
  pub keys : List (List (Option ℕ))
  pub epoch : ℕ
  pub spare : ℕ

-- a place of the shelf, whether or not there is a key
pub record IsOn (s : Shelved) (at : Place) : Type 0 where
  pub from_first : s.first ≤ at.block
  pub block : at.block < s.first + length s.keys
  pub field : at.field < s.fields

-- the keys of a block by field
abbrev pub keys_of : Shelved → ℕ → List (Option ℕ)
keys_of s block = cond (nat_lt block s.first) [] (slice_index_or s.keys (block - s.first) [])

-- the key of a place, or nothing where the place is not allocated
abbrev pub key_at : Shelved → Place → Option ℕ
key_at s at = slice_index_or (keys_of s at.block) at.field None

-- the keys with one changed
abbrev pub with_key : Shelved → Place → Option ℕ → List (List (Option ℕ))
with_key s at key = slice_set s.keys (at.block - s.first) (slice_set (keys_of s at.block) at.field key)

-- the keys of so many blocks and fields of which none is allocated
abbrev pub no_keys : ℕ → ℕ → List (List (Option ℕ))
no_keys blocks fields = replicate blocks (replicate fields None)

-- whether a field has a flag
abbrev pub flagged : List Field → Flag → ℕ → Bool
flagged fields flag field = slice_index_or (map (λ f. has flag f.flags) fields) field false

-- whether tasks of a kind take a field
abbrev pub takes : List Field → PackKind → ℕ → Bool
takes fields All field = true
takes fields Ghost field = flagged fields FillGhost field
takes fields Flux field = flagged fields WithFluxes field

-- a field on a block
abbrev pub place_on : ℕ → ℕ → Place
place_on block field = record { block = block; field = field }

-- the places of a block that are allocated and whose field passes, by field
abbrev pub listed_on : Shelved → (ℕ → Bool) → ℕ → List Place
listed_on s passes block = filter (λ at. is_some (key_at s at) && passes at.field) (map (place_on block) (range_with_len 0 s.fields))

-- the places that are allocated and whose field passes, by block, then field
abbrev pub listed : Shelved → (ℕ → Bool) → List Place
listed s passes = flat_map (listed_on s passes) (range_with_len s.first (length s.keys))

-- the first field of a block from one on that is allocated there, with its key
pub record IsNext (s : Shelved) (block from : ℕ) (next : KeyedField) : Type 0 where
  pub after : from ≤ next.field
  pub within : next.field < s.fields
  pub has_key : key_at s (place_on block next.field) ≡ Some next.key
  pub first : (f : ℕ) → from ≤ f → f < next.field → key_at s (place_on block f) ≡ None

-- no field of a block from one on is allocated there
abbrev pub IsNoneFrom : Shelved → ℕ → ℕ → Type 0
IsNoneFrom s block from = (f : ℕ) → from ≤ f → f < s.fields → key_at s (place_on block f) ≡ None
