-- Listing the places of a block, and of all blocks.
use Rattle.std.proofs.Common.{◌≡◌, ◌∙◌, sym, ap, subst, refl, ℕ, zero, suc, ◌+◌, ◌-◌, ◌/◌, ◌%◌, ◌<◌, ◌≤◌, Bool, false, ◌&&◌, cond, nat_lt, is_some, Option, None, List, [], ◌∷◌, ◌++◌, length, map, slice_index_or, arith}
use Rattle.std.specs.Prelude.{filter, flat_map}
use Rattle.std.specs.List.{range_with_len}
use Rattle.std.proofs.lemmas.Bool.{ltb-false}
use Rattle.std.proofs.lemmas.List.{append-nil, map-id, nil_from_length}
use Rattle.std.proofs.lemmas.Grind.{flat_map-append}
use Rattle.std.proofs.lemmas.List.FromFn.{map-range_with_len_more, filter_of_map_range_with_len_more}
use Rattle.sparse_pool.specs.declared.place.Place.{Place}
use Rattle.alloc_epochs.specs.Pages.{key_in}
use Rattle.alloc_epochs.specs.Rows.{row_places}
use Rattle.alloc_epochs.specs.Shelf.{Shelved, key_at, listed_on, place_on}
use Rattle.alloc_epochs.proofs.Entries.{no_key}
use Rattle.alloc_epochs.proofs.Keys.{shelved, no_page, no_row, key_is}

-- the entry of a field in a list
abbrev pub entry_of : List (List (Option ℕ)) → (ℕ → Bool) → ℕ → ℕ → List Place
entry_of pages passes block field = cond (is_some (key_in pages field) && passes field) (place_on block field ∷ []) []

pub row_more : (pages : List (List (Option ℕ))) (passes : ℕ → Bool) (block field : ℕ)
    → row_places pages passes block (field + 1) ≡ row_places pages passes block field ++ entry_of pages passes block field
row_more pages passes block field =
    filter_of_map_range_with_len_more (λ (at : Place). is_some (key_in pages at.field) && passes at.field) (place_on block) 0 field field (omega arith)

-- fields without a key are not listed
pub row_skip : (pages : List (List (Option ℕ))) (passes : ℕ → Bool) (block n k : ℕ) → ((field : ℕ) → n ≤ field → field < n + k → key_in pages field ≡ None)
    → row_places pages passes block (n + k) ≡ row_places pages passes block n
row_skip pages passes block n zero none = ap (λ (m : ℕ). row_places pages passes block m) (omega arith)
row_skip pages passes block n (suc k) none =
    ap (λ (m : ℕ). row_places pages passes block m) (omega arith)
    ∙ (row_more pages passes block (n + k)
    ∙ (ap (λ (o : Option ℕ). row_places pages passes block (n + k) ++ cond (is_some o && passes (n + k)) (place_on block (n + k) ∷ []) []) (none (n + k) (omega arith) (omega arith))
    ∙ (append-nil (row_places pages passes block (n + k))
    ∙ row_skip pages passes block n k (λ field from below. none field from (omega arith)))))

-- no field of a page without entries has a key
pub no_page_no_key : (pages : List (List (Option ℕ))) (n field : ℕ) → nat_lt 0 (length (slice_index_or pages (n / 32) [])) ≡ false → field / 32 ≡ n / 32 → key_in pages field ≡ None
no_page_no_key pages n field none e =
    ap (λ (k : ℕ). slice_index_or (slice_index_or pages k no_page) (field % 32) no_key) e
    ∙ ap (λ (p : List (Option ℕ)). slice_index_or p (field % 32) no_key) (nil_from_length (slice_index_or pages (n / 32) no_page) (let h : length (slice_index_or pages (n / 32) no_page) ≤ 0 = ltb-false 0 (length (slice_index_or pages (n / 32) no_page)) none in omega arith))

-- up to the next page
pub row_skip_page : (pages : List (List (Option ℕ))) (passes : ℕ → Bool) (block n next later : ℕ) → nat_lt 0 (length (slice_index_or pages (n / 32) [])) ≡ false
    → n ≤ later → later ≤ next → (next - 1) / 32 ≡ n / 32 → row_places pages passes block later ≡ row_places pages passes block n
row_skip_page pages passes block n next later none from to near =
    ap (λ (m : ℕ). row_places pages passes block m) (omega arith)
    ∙ row_skip pages passes block n (later - n) (λ field above below. no_page_no_key pages n field none (omega arith))

-- what a row lists is what the shelf lists of the block
pub row_listed : (first fields epoch spare : ℕ) (rows : List (List (List (Option ℕ)))) (passes : ℕ → Bool) (block a n : ℕ) → first ≤ block → a + n ≤ fields
    → filter (λ (at : Place). is_some (key_in (slice_index_or rows (block - first) no_row) at.field) && passes at.field) (map (place_on block) (range_with_len a n))
    ≡ filter (λ (at : Place). is_some (key_at (shelved first fields rows epoch spare) at) && passes at.field) (map (place_on block) (range_with_len a n))
row_listed first fields epoch spare rows passes block a zero from within = refl
row_listed first fields epoch spare rows passes block a (suc n) from within =
    let row = slice_index_or rows (block - first) no_row in
    let s = shelved first fields rows epoch spare in
    let rest = map (place_on block) (range_with_len (a + 1) n) in
    let kept = filter (λ (at : Place). is_some (key_in row at.field) && passes at.field) rest in
    ap (λ (o : Option ℕ). cond (is_some o && passes a) (place_on block a ∷ kept) kept) (sym (key_is first fields epoch spare rows (place_on block a) from (omega arith)))
    ∙ ap (λ (ps : List Place). cond (is_some (key_at s (place_on block a)) && passes a) (place_on block a ∷ ps) ps) (row_listed first fields epoch spare rows passes block (a + 1) n from (omega arith))

pub range_more : (a n : ℕ) → range_with_len a (n + 1) ≡ range_with_len a n ++ (a + n) ∷ []
range_more a n =
    sym (map-id (range_with_len a (n + 1))) ∙ (map-range_with_len_more (λ (x : ℕ). x) a n (a + n) refl ∙ ap (λ (xs : List ℕ). xs ++ (a + n) ∷ []) (map-id (range_with_len a n)))

-- one block more
pub blocks_more : (f : ℕ → List Place) (first i : ℕ) → flat_map f (range_with_len first (i + 1)) ≡ flat_map f (range_with_len first i) ++ f (first + i)
blocks_more f first i =
    ap (λ (xs : List ℕ). flat_map f xs) (range_more first i)
    ∙ (flat_map-append f (range_with_len first i) ((first + i) ∷ [])
    ∙ ap (λ (ys : List Place). flat_map f (range_with_len first i) ++ ys) (append-nil (f (first + i))))

-- the places of one block more of a shelf
pub listed_more : (first fields epoch spare : ℕ) (rows : List (List (List (Option ℕ)))) (passes : ℕ → Bool) (i count : ℕ) (before after : List Place) (s : Shelved)
    → shelved first fields rows epoch spare ≡ s → count ≡ s.fields
    → before ≡ flat_map (listed_on s passes) (range_with_len s.first i)
    → after ≡ before ++ row_places (slice_index_or rows i no_row) passes (first + i) count
    → after ≡ flat_map (listed_on s passes) (range_with_len s.first (i + 1))
listed_more first fields epoch spare rows passes i count before after s is =
    let P = λ (s : Shelved). count ≡ s.fields → before ≡ flat_map (listed_on s passes) (range_with_len s.first i)
    → after ≡ before ++ row_places (slice_index_or rows i no_row) passes (first + i) count
    → after ≡ flat_map (listed_on s passes) (range_with_len s.first (i + 1)) in
    subst P is (λ many had now.
    let on = listed_on (shelved first fields rows epoch spare) passes in
    let had_before = flat_map on (range_with_len first i) in
    now
    ∙ (ap (λ (ps : List Place). ps ++ row_places (slice_index_or rows i no_row) passes (first + i) count) had
    ∙ (ap (λ (n : ℕ). had_before ++ row_places (slice_index_or rows i no_row) passes (first + i) n) many
    ∙ (ap (λ (k : ℕ). had_before ++ row_places (slice_index_or rows k no_row) passes (first + i) fields) (omega arith)
    ∙ (ap (λ (ps : List Place). had_before ++ ps) (row_listed first fields epoch spare rows passes (first + i) 0 fields (omega arith) (omega arith))
    ∙ sym (blocks_more on first i))))))
