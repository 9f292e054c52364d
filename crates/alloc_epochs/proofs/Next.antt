-- The next allocated field of a block.
use Rattle.std.proofs.Common.{◌≡◌, ◌∙◌, ap, subst, ℕ, ◌-◌, ◌<◌, ◌≤◌, Option, None, Some, List, slice_index_or, arith}
use Rattle.std.specs.Prelude.{IfNone, IfSome}
use Rattle.alloc_epochs.specs.declared.finding.KeyedField.{KeyedField}
use Rattle.alloc_epochs.specs.Pages.{key_in}
use Rattle.alloc_epochs.specs.Rows.{IsNextIn}
use Rattle.alloc_epochs.specs.Shelf.{IsNext, IsNoneFrom, Shelved, key_at, place_on}
use Rattle.alloc_epochs.proofs.Keys.{shelved, no_row, key_is}

-- what a row has of a field is what the shelf has
row_key : (first fields epoch spare : ℕ) (rows : List (List (List (Option ℕ)))) (block f : ℕ) (row : List (List (Option ℕ))) → first ≤ block → f < fields
    → slice_index_or rows (block - first) no_row ≡ row → key_at (shelved first fields rows epoch spare) (place_on block f) ≡ key_in row f
row_key first fields epoch spare rows block f row from within is =
    key_is first fields epoch spare rows (place_on block f) from within ∙ ap (λ (r : List (List (Option ℕ))). key_in r f) is

pub next_found : (first fields epoch spare : ℕ) (rows : List (List (List (Option ℕ)))) (block from : ℕ) (row : List (List (Option ℕ))) (s : Shelved) (r : Option KeyedField)
    → shelved first fields rows epoch spare ≡ s → first ≤ block → slice_index_or rows (block - first) no_row ≡ row
    → IfSome r (IsNextIn row from fields) → IfSome r (IsNext s block from)
next_found first fields epoch spare rows block from row s None is below here found = found
next_found first fields epoch spare rows block from row s (Some next) is below here found =
    subst (λ (v : Shelved). IsNext v block from next) is (record {
      after = found.after;
      within = found.within;
      has_key = row_key first fields epoch spare rows block next.field row below found.within here ∙ found.has_key;
      first = λ f above before. row_key first fields epoch spare rows block f row below (omega (arith, found.within, before)) here ∙ found.first f above before;
    })

pub none_found : (first fields epoch spare : ℕ) (rows : List (List (List (Option ℕ)))) (block from : ℕ) (row : List (List (Option ℕ))) (s : Shelved) (r : Option KeyedField)
    → shelved first fields rows epoch spare ≡ s → first ≤ block → slice_index_or rows (block - first) no_row ≡ row
    → IfNone r ((f : ℕ) → from ≤ f → f < fields → key_in row f ≡ None) → IfNone r (IsNoneFrom s block from)
none_found first fields epoch spare rows block from row s (Some next) is below here none = none
none_found first fields epoch spare rows block from row s None is below here none =
    subst (λ (v : Shelved). IsNoneFrom v block from) is (λ f above before. row_key first fields epoch spare rows block f row below before here ∙ none f above before)
