-- The rows of a shelf. This serves the private contracts of the crate: a shelf itself is `Shelf`.
use Rattle.std.specs.Prelude.{◌≡◌, ℕ, ◌+◌, ◌<◌, ◌≤◌, Bool, ◌&&◌, is_some, Option, None, Some, List, [], length, map, filter, replicate, All}
use Rattle.std.specs.List.{range_with_len}
use Rattle.sparse_pool.specs.declared.place.Place.{Place}
use Rattle.alloc_epochs.specs.Pages.{key_in, pages_for}
use Rattle.alloc_epochs.specs.Shelf.{place_on}
use Rattle.alloc_epochs.specs.declared.finding.KeyedField.{KeyedField}

-- so many rows of so many pages with no entry
abbrev pub empty_rows : ℕ → ℕ → List (List (List (Option ℕ)))
empty_rows rows pages = replicate rows (replicate pages [])

-- the rows of blocks with these fields, each with all its pages
pub record AreRows (first fields : ℕ) (rows : List (List (List (Option ℕ)))) : Type 0 where
  pub few_blocks : first + length rows ≤ 65536
  pub few_fields : fields ≤ 256
  pub all_pages : All (λ (row : List (List (Option ℕ))). length row ≡ pages_for fields) rows

-- the places of the first fields of a block with these pages that are allocated and whose field passes
abbrev pub row_places : List (List (Option ℕ)) → (ℕ → Bool) → ℕ → ℕ → List Place
row_places pages passes block fields = filter (λ at. is_some (key_in pages at.field) && passes at.field) (map (place_on block) (range_with_len 0 fields))

-- the first of so many fields from one on that has a key in these pages
pub record IsNextIn (pages : List (List (Option ℕ))) (from count : ℕ) (next : KeyedField) : Type 0 where
  pub after : from ≤ next.field
  pub within : next.field < count
  pub has_key : key_in pages next.field ≡ Some next.key
  pub first : (f : ℕ) → from ≤ f → f < next.field → key_in pages f ≡ None
