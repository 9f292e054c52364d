-- The keys of a block in its pages.
use Rattle.std.proofs.Common.{◌≡◌, ◌≢◌, ◌∙◌, sym, ap, inl, inr, ℕ, ◌+◌, ◌-◌, ◌/◌, ◌%◌, ◌<◌, ◌≤◌, nat_lt, Option, None, List, [], length, map, slice_index_or, slice_set, arith}
use Rattle.std.proofs.lemmas.Bool.{cases_eq, cases_lt, lt-ltb, le-ltb, cond-true, cond-false}
use Rattle.std.proofs.lemmas.List.{get_or_past, length-map, get_or-map, get_or-set_same, get_or-set_other, length-set, map-set}
use Rattle.std.proofs.lemmas.List.FromFn.{length-map-range_with_len, get_or-map-range_with_len, fill_by_all}
use Rattle.sparse_pool.specs.declared.place.Place.{Place}
use Rattle.alloc_epochs.specs.Pages.{Changes, key_in, keys_in}
use Rattle.alloc_epochs.specs.Shelf.{Shelved, key_at, keys_of, with_key}
use Rattle.alloc_epochs.proofs.Entries.{no_key}

abbrev pub no_page : List (Option ℕ)
no_page = []

-- one page changes at one entry
pub row_changes : (pages : List (List (Option ℕ))) (page : List (Option ℕ)) (field : ℕ) (key : Option ℕ) → field / 32 < length pages
    → slice_index_or page (field % 32) None ≡ key
    → ((entry : ℕ) → entry ≢ field % 32 → slice_index_or page entry None ≡ slice_index_or (slice_index_or pages (field / 32) []) entry None)
    → Changes pages (slice_set pages (field / 32) page) field key
row_changes pages page field key within here same = record {
  changed = ap (λ (p : List (Option ℕ)). slice_index_or p (field % 32) no_key) (get_or-set_same pages (field / 32) page [] within) ∙ here;
  others = λ other ne. elim (cases_eq (other / 32) (field / 32)) as (λ _. key_in (slice_set pages (field / 32) page) other ≡ key_in pages other) [
    | inl e ↦
        let apart : other % 32 ≢ field % 32 = λ r. ne (omega arith) in
        ap (λ (n : ℕ). slice_index_or (slice_index_or (slice_set pages (field / 32) page) n no_page) (other % 32) no_key) e
        ∙ (ap (λ (p : List (Option ℕ)). slice_index_or p (other % 32) no_key) (get_or-set_same pages (field / 32) page [] within)
        ∙ (same (other % 32) apart
        ∙ ap (λ (n : ℕ). slice_index_or (slice_index_or pages n no_page) (other % 32) no_key) (sym e)))
    | inr far ↦ ap (λ (p : List (Option ℕ)). slice_index_or p (other % 32) no_key) (get_or-set_other pages (field / 32) (other / 32) page [] far)
  ];
  as_many = length-set pages (field / 32) page;
}

pub length_keys : (fields : ℕ) (pages : List (List (Option ℕ))) → length (keys_in fields pages) ≡ fields
length_keys fields pages = length-map-range_with_len (key_in pages) 0 fields

pub get_keys : (fields : ℕ) (pages : List (List (Option ℕ))) (field : ℕ) → field < fields → slice_index_or (keys_in fields pages) field None ≡ key_in pages field
get_keys fields pages field h = get_or-map-range_with_len (key_in pages) 0 fields field field None h (omega arith)

pub changed_keys : (fields : ℕ) (old new : List (List (Option ℕ))) (field : ℕ) (key : Option ℕ) → field < fields → Changes old new field key
    → keys_in fields new ≡ slice_set (keys_in fields old) field key
changed_keys fields old new field key h changes =
    sym (fill_by_all (key_in new) (slice_set (keys_in fields old) field key) fields None (length-set (keys_in fields old) field key ∙ length_keys fields old) (λ k below.
    elim (cases_eq k field) as (λ _. slice_index_or (slice_set (keys_in fields old) field key) k None ≡ key_in new k) [
      | inl e ↦ ap (λ (n : ℕ). slice_index_or (slice_set (keys_in fields old) field key) n no_key) e
          ∙ (get_or-set_same (keys_in fields old) field key None (omega (arith, length_keys fields old))
          ∙ (sym changes.changed ∙ ap (λ (n : ℕ). key_in new n) (sym e)))
      | inr ne ↦ get_or-set_other (keys_in fields old) field k key None ne ∙ (get_keys fields old k below ∙ sym (changes.others k ne))
    ]))

-- what contracts see of a shelf with these rows
abbrev pub shelved : ℕ → ℕ → List (List (List (Option ℕ))) → ℕ → ℕ → Shelved
shelved first fields rows epoch spare = record { first = first; fields = fields; keys = map (keys_in fields) rows; epoch = epoch; spare = spare }

abbrev pub no_row : List (List (Option ℕ))
no_row = []

abbrev pub no_keys_here : List (Option ℕ)
no_keys_here = []

-- the keys of a block, at any number of it
pub row_keys : (fields : ℕ) (rows : List (List (List (Option ℕ)))) (i field : ℕ) → field < fields
    → slice_index_or (slice_index_or (map (keys_in fields) rows) i no_keys_here) field None ≡ key_in (slice_index_or rows i no_row) field
row_keys fields rows i field h = elim (cases_lt i (length rows)) [
  | inl below ↦ ap (λ (ks : List (Option ℕ)). slice_index_or ks field no_key) (get_or-map (keys_in fields) rows i no_row no_keys_here below) ∙ get_keys fields (slice_index_or rows i no_row) field h
  | inr past ↦ ap (λ (ks : List (Option ℕ)). slice_index_or ks field no_key) (get_or_past (map (keys_in fields) rows) i no_keys_here (omega (arith, length-map rows (keys_in fields))))
      ∙ sym (ap (λ (row : List (List (Option ℕ))). key_in row field) (get_or_past rows i no_row past))
]

pub key_is : (first fields epoch spare : ℕ) (rows : List (List (List (Option ℕ)))) (at : Place) → first ≤ at.block → at.field < fields
    → key_at (shelved first fields rows epoch spare) at ≡ key_in (slice_index_or rows (at.block - first) no_row) at.field
key_is first fields epoch spare rows at from h =
    ap (λ (ks : List (Option ℕ)). slice_index_or ks at.field no_key) (cond-false (nat_lt at.block first) no_keys_here (slice_index_or (map (keys_in fields) rows) (at.block - first) no_keys_here) (le-ltb at.block first from))
    ∙ row_keys fields rows (at.block - first) at.field h

pub key_before : (first fields epoch spare : ℕ) (rows : List (List (List (Option ℕ)))) (at : Place) → at.block < first
    → key_at (shelved first fields rows epoch spare) at ≡ None
key_before first fields epoch spare rows at before =
    ap (λ (ks : List (Option ℕ)). slice_index_or ks at.field no_key) (cond-true (nat_lt at.block first) no_keys_here (slice_index_or (map (keys_in fields) rows) (at.block - first) no_keys_here) (lt-ltb at.block first before))

-- a field that is not there has no key
pub key_beyond : (first fields epoch spare : ℕ) (rows : List (List (List (Option ℕ)))) (at : Place) → first ≤ at.block → fields ≤ at.field
    → key_at (shelved first fields rows epoch spare) at ≡ None
key_beyond first fields epoch spare rows at from past =
    ap (λ (ks : List (Option ℕ)). slice_index_or ks at.field no_key) (cond-false (nat_lt at.block first) no_keys_here (slice_index_or (map (keys_in fields) rows) (at.block - first) no_keys_here) (le-ltb at.block first from))
    ∙ elim (cases_lt (at.block - first) (length rows)) [
      | inl below ↦ ap (λ (ks : List (Option ℕ)). slice_index_or ks at.field no_key) (get_or-map (keys_in fields) rows (at.block - first) no_row no_keys_here below)
          ∙ get_or_past (keys_in fields (slice_index_or rows (at.block - first) no_row)) at.field None (omega (arith, length_keys fields (slice_index_or rows (at.block - first) no_row)))
      | inr gone ↦ ap (λ (ks : List (Option ℕ)). slice_index_or ks at.field no_key) (get_or_past (map (keys_in fields) rows) (at.block - first) no_keys_here (omega (arith, length-map rows (keys_in fields))))
    ]

-- one row changes at one field
pub changed_shelf : (first fields epoch spare : ℕ) (rows : List (List (List (Option ℕ)))) (at : Place) (new : List (List (Option ℕ))) (key : Option ℕ)
    → first ≤ at.block → at.block < first + length rows → at.field < fields → Changes (slice_index_or rows (at.block - first) no_row) new at.field key
    → map (keys_in fields) (slice_set rows (at.block - first) new) ≡ with_key (shelved first fields rows epoch spare) at key
changed_shelf first fields epoch spare rows at new key from within h changes =
    let i = at.block - first in
    let old = slice_index_or rows i no_row in
    let all = map (keys_in fields) rows in
    let here : keys_of (shelved first fields rows epoch spare) at.block ≡ keys_in fields old =
    cond-false (nat_lt at.block first) no_keys_here (slice_index_or all i no_keys_here) (le-ltb at.block first from)
    ∙ get_or-map (keys_in fields) rows i no_row no_keys_here (omega arith) in
    map-set (keys_in fields) rows i new
    ∙ (ap (λ (ks : List (Option ℕ)). slice_set all i ks) (changed_keys fields old new at.field key h changes)
    ∙ ap (λ (ks : List (Option ℕ)). slice_set all i (slice_set ks at.field key)) (sym here))
