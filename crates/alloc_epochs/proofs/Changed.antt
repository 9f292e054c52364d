-- A shelf with nothing on it, and a shelf of which one place changed.
use Rattle.std.proofs.Common.{◌≡◌, ◌∙◌, sym, ap, subst, refl, inl, inr, ℕ, zero, suc, ◌+◌, ◌-◌, ◌/◌, ◌%◌, ◌<◌, ◌≤◌, Option, None, Some, List, ◌∷◌, length, map, replicate, slice_index_or, slice_set, arith}
use Rattle.std.specs.List.{range_with_len}
use Rattle.std.proofs.lemmas.Bool.{cases_lt}
use Rattle.std.proofs.lemmas.List.{get_or-replicate, get_or_past, length-replicate, length-map}
use Rattle.std.proofs.lemmas.List.Elements.{All-get_or}
use Rattle.sparse_pool.specs.declared.place.Place.{Place}
use Rattle.alloc_epochs.specs.Pages.{Changes, key_in, keys_in, pages_for}
use Rattle.alloc_epochs.specs.Rows.{AreRows, empty_rows}
use Rattle.alloc_epochs.specs.Shelf.{Shelved, IsOn, key_at, with_key, no_keys}
use Rattle.alloc_epochs.proofs.Entries.{no_key}
use Rattle.alloc_epochs.proofs.Keys.{shelved, no_page, no_row, key_before, key_beyond, key_is, changed_shelf}

pub key_of_nothing : (pages field : ℕ) → key_in (replicate pages no_page) field ≡ None
key_of_nothing pages field = elim (cases_lt (field / 32) pages) [
  | inl h ↦ ap (λ (p : List (Option ℕ)). slice_index_or p (field % 32) no_key) (get_or-replicate pages (field / 32) no_page no_page h)
  | inr h ↦ ap (λ (p : List (Option ℕ)). slice_index_or p (field % 32) no_key) (get_or_past (replicate pages no_page) (field / 32) no_page (omega (arith, length-replicate pages no_page)))
]

pub keys_of_nothing : (pages a n : ℕ) → map (key_in (replicate pages no_page)) (range_with_len a n) ≡ replicate n None
keys_of_nothing pages a zero = refl
keys_of_nothing pages a (suc n) =
    ap (λ (o : Option ℕ). o ∷ map (key_in (replicate pages no_page)) (range_with_len (a + 1) n)) (key_of_nothing pages a)
    ∙ ap (λ (ks : List (Option ℕ)). None ∷ ks) (keys_of_nothing pages (a + 1) n)

pub empty_keys : (blocks fields pages : ℕ) → map (keys_in fields) (empty_rows blocks pages) ≡ no_keys blocks fields
empty_keys zero fields pages = refl
empty_keys (suc blocks) fields pages =
    ap (λ (ks : List (Option ℕ)). ks ∷ map (keys_in fields) (empty_rows blocks pages)) (keys_of_nothing pages 0 fields)
    ∙ ap (λ (kss : List (List (Option ℕ))). replicate fields no_key ∷ kss) (empty_keys blocks fields pages)

-- a place with a key is on the shelf
pub is_on : (first fields epoch spare : ℕ) (rows : List (List (List (Option ℕ)))) (at : Place) (key : ℕ)
    → key_at (shelved first fields rows epoch spare) at ≡ Some key → IsOn (shelved first fields rows epoch spare) at
is_on first fields epoch spare rows at key e =
    let from : first ≤ at.block = elim (cases_lt at.block first) [
      | inl before ↦ absurd (let clash : None ≡ Some key = sym (key_before first fields epoch spare rows at before) ∙ e in cc)
      | inr h ↦ h
    ] in
    let field : at.field < fields = elim (cases_lt at.field fields) [
      | inl h ↦ h
      | inr past ↦ absurd (let clash : None ≡ Some key = sym (key_beyond first fields epoch spare rows at from past) ∙ e in cc)
    ] in
    let below : at.block - first < length rows = elim (cases_lt (at.block - first) (length rows)) [
      | inl h ↦ h
      | inr past ↦ absurd (let clash : None ≡ Some key =
          sym (ap (λ (row : List (List (Option ℕ))). key_in row at.field) (get_or_past rows (at.block - first) no_row past))
          ∙ (sym (key_is first fields epoch spare rows at from field) ∙ e) in cc)
    ] in
    record { from_first = from; block = omega (arith, length-map rows (keys_in fields)); field = field }

-- the page of a field is there
pub page_there : (first fields : ℕ) (rows : List (List (List (Option ℕ)))) (i field : ℕ) → AreRows first fields rows → i < length rows → field < fields
    → field / 32 < length (slice_index_or rows i no_row)
page_there first fields rows i field are h below =
    let n : length (slice_index_or rows i no_row) ≡ pages_for fields = All-get_or (λ (row : List (List (Option ℕ))). length row ≡ pages_for fields) rows i no_row h are.all_pages in
    omega arith

-- the number of a block of the shelf
pub block_there : (first fields epoch spare : ℕ) (rows : List (List (List (Option ℕ)))) (at : Place) → IsOn (shelved first fields rows epoch spare) at → at.block - first < length rows
block_there first fields epoch spare rows at on =
    let h : at.block < first + length (map (keys_in fields) rows) = on.block in
    let from : first ≤ at.block = on.from_first in
    omega (arith, length-map rows (keys_in fields))

pub shelf_changed : (first fields epoch spare later : ℕ) (rows : List (List (List (Option ℕ)))) (at : Place) (new : List (List (Option ℕ))) (key : Option ℕ) (s : Shelved)
    → shelved first fields rows epoch spare ≡ s → IsOn s at → Changes (slice_index_or rows (at.block - first) no_row) new at.field key
    → shelved first fields (slice_set rows (at.block - first) new) (epoch + 1) later
    ≡ record { first = s.first; fields = s.fields; keys = with_key s at key; epoch = s.epoch + 1; spare = later }
shelf_changed first fields epoch spare later rows at new key s is on changes =
    let P = λ (s : Shelved). IsOn s at → shelved first fields (slice_set rows (at.block - first) new) (epoch + 1) later
    ≡ record { first = s.first; fields = s.fields; keys = with_key s at key; epoch = s.epoch + 1; spare = later } in
    subst P is (λ on.
    let h : at.block < first + length (map (keys_in fields) rows) = on.block in
    ap (λ (ks : List (List (Option ℕ))). record { first = first; fields = fields; keys = ks; epoch = epoch + 1; spare = later })
    (changed_shelf first fields epoch spare rows at new key on.from_first (omega (arith, length-map rows (keys_in fields))) on.field changes)) on
