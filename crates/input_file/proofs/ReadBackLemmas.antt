-- The deck of a deck's text is the deck.
use Rattle.std.proofs.Common.{◌≡◌, ℕ, ◌≤◌, ◌+◌, true, false, cond, List, [], ◌∷◌, ◌++◌, refl, ap, sym, ◌∙◌, length, nat_eq, append_assoc}
use Rattle.std.specs.Prelude.{◌||◌, Option, Some, None, Result, Ok, unwrap_or}
use Rattle.std.specs.List.{list_any}
use Rattle.std.specs.Str.{bytes_eq, IsUtf8}
use Rattle.std.specs.Map.{lookup}
use Rattle.std.proofs.lemmas.List.{append-nil}
use Rattle.std.proofs.lemmas.Slice.Eq.{bytes_eq-Decides}
use Rattle.indexmap.specs.IndexMap.{insert_entry}
use Rattle.input_file.specs.Texts.{Text}
use Rattle.input_file.specs.Blocks.{Entries, Blocks, keys_of, with_block, set}
use Rattle.input_file.specs.WellFormed.{AreKeysAfter, AreBlocksAfter, AreBlocks}
use Rattle.input_file.specs.Decks.{Reading, and_then, after_form, after_lines, lines_of, deck_of_text, deck}
use Rattle.input_file.specs.Printed.{setting_lines, deck_lines, text_of_lines, printed}
use Rattle.input_file.specs.declared.fault.DeckFault.{DeckFault}
use Rattle.input_file.proofs.FaultLemmas.{deck-text}
use Rattle.input_file.proofs.FormLemmas.{or-parts, form_of-header_line, form_of-setting_line, header_line-whole, setting_line-whole}

lookup-append : {X : Type 0} (q : Text) (xs ys : List (Text × X)) → lookup (bytes_eq q) xs ≡ None → lookup (bytes_eq q) (xs ++ ys) ≡ lookup (bytes_eq q) ys
lookup-append q [] ys h = refl
lookup-append {X} q (x ∷ xs) ys h =
    (elim (bytes_eq q x.0) as (λ b. cond b (Some x.1) (lookup (bytes_eq q) xs) ≡ None → cond b (Some x.1) (lookup (bytes_eq q) (xs ++ ys)) ≡ lookup (bytes_eq q) ys)
    [ true ↦ λ found. absurd (cc) | false ↦ λ none. lookup-append {X = X} q xs ys none ]) h

insert_entry-append : {X : Type 0} (q : Text) (xs ys : List (Text × X)) (v : X) → lookup (bytes_eq q) xs ≡ None → insert_entry bytes_eq (xs ++ ys) q v ≡ xs ++ insert_entry bytes_eq ys q v
insert_entry-append q [] ys v h = refl
insert_entry-append {X} q (x ∷ xs) ys v h =
    (elim (bytes_eq q x.0) as (λ b. cond b (Some x.1) (lookup (bytes_eq q) xs) ≡ None → cond b ((x.0, v) ∷ (xs ++ ys)) (x ∷ insert_entry bytes_eq (xs ++ ys) q v) ≡ x ∷ (xs ++ insert_entry bytes_eq ys q v))
    [ true ↦ λ found. absurd (cc) | false ↦ λ none. ap (λ zs. x ∷ zs) (insert_entry-append {X = X} q xs ys v none) ]) h

insert_entry-new : {X : Type 0} (q : Text) (xs : List (Text × X)) (v : X) → lookup (bytes_eq q) xs ≡ None → insert_entry bytes_eq xs q v ≡ xs ++ ((q, v) ∷ [])
insert_entry-new {X} q xs v h = ap (λ (zs : List (Text × X)). insert_entry bytes_eq zs q v) (sym (append-nil xs)) ∙ insert_entry-append q xs [] v h

bytes_eq-refl : (t : Text) → bytes_eq t t ≡ true
bytes_eq-refl t = (bytes_eq-Decides t t).1 refl

-- what is among the texts before, and only that, is a key of the entries
Fresh : {X : Type 0} → List Text → List (Text × X) → Type 0
Fresh {X} before xs = (q : Text) → list_any (bytes_eq q) before ≡ false → lookup (bytes_eq q) xs ≡ None

Fresh-more : {X : Type 0} (before : List Text) (xs : List (Text × X)) (k : Text) (v : X) → Fresh before xs → Fresh (k ∷ before) (xs ++ ((k, v) ∷ []))
unfolding Fresh
Fresh-more {X} before xs k v fresh q h =
    (elim (bytes_eq q k) as (λ b. (b || list_any (bytes_eq q) before) ≡ false → bytes_eq q k ≡ b → lookup (bytes_eq q) (xs ++ ((k, v) ∷ [])) ≡ None) [
      | true ↦ λ e _. absurd (cc)
      | false ↦ λ e other. lookup-append q xs ((k, v) ∷ []) (fresh q e) ∙ rw other refl
    ]) h refl

-- ---- reading the lines of a deck

-- the last block of a deck, which has this name and stands nowhere before
last-keys : (d : Blocks) (b : Text) (es : Entries) → lookup (bytes_eq b) d ≡ None → keys_of (d ++ ((b, es) ∷ [])) b ≡ es
last-keys d b es h =
    let found : lookup (bytes_eq b) (d ++ ((b, es) ∷ [])) ≡ Some es = lookup-append b d ((b, es) ∷ []) h ∙ rw (bytes_eq-refl b) refl in
    ap (λ o. unwrap_or o []) found

last-insert : (d : Blocks) (b : Text) (es ks : Entries) → lookup (bytes_eq b) d ≡ None → insert_entry bytes_eq (d ++ ((b, es) ∷ [])) b ks ≡ d ++ ((b, ks) ∷ [])
last-insert d b es ks h = insert_entry-append b d ((b, es) ∷ []) ks h ∙ rw (bytes_eq-refl b) refl

last-set : (d : Blocks) (b : Text) (es : Entries) (k v : Text) → lookup (bytes_eq b) d ≡ None → lookup (bytes_eq k) es ≡ None → set (d ++ ((b, es) ∷ [])) b k v ≡ d ++ ((b, es ++ ((k, v) ∷ [])) ∷ [])
last-set d b es k v h new =
    ap (λ ks. insert_entry bytes_eq (d ++ ((b, es) ∷ [])) b (insert_entry bytes_eq ks k v)) (last-keys d b es h)
    ∙ last-insert d b es (insert_entry bytes_eq es k v) h
    ∙ ap (λ (ks : Entries). d ++ ((b, ks) ∷ [])) (insert_entry-new k es v new)

new-block : (d : Blocks) (b : Text) → lookup (bytes_eq b) d ≡ None → with_block d b ≡ d ++ ((b, []) ∷ [])
new-block d b h = ap (λ o. insert_entry bytes_eq d b (unwrap_or o [])) h ∙ insert_entry-new b d [] h

-- lines take the deck so far to another one, whatever their numbers
Reads : Reading → List Text → Reading → List Text → Type 0
Reads s lines t rest = (n : ℕ) → (m : ℕ) × (after_lines n s lines ≡ after_lines m t rest)

-- the lines of a block's keys fill the last block
reads-keys : (d : Blocks) (b : Text) (before : List Text) (done es : Entries) (rest : List Text) → lookup (bytes_eq b) d ≡ None → Fresh before done → AreKeysAfter before es → Reads (d ++ ((b, done) ∷ []), Some b) (setting_lines es ++ rest) (d ++ ((b, done ++ es) ∷ []), Some b) rest
unfolding Fresh Reads
reads-keys d b before done [] rest new fresh h n = (n, ap (λ (ks : Entries). after_lines n (d ++ ((b, ks) ∷ []), Some b) rest) (sym (append-nil done)))
reads-keys d b before done (e ∷ es) rest new fresh h n =
    let form = form_of-setting_line e.0 e.1 h.0 h.1 in
    let put : set (d ++ ((b, done) ∷ [])) b e.0 e.1 ≡ d ++ ((b, done ++ (e ∷ [])) ∷ []) = last-set d b done e.0 e.1 new (fresh e.0 h.2) in
    let later = reads-keys d b (e.0 ∷ before) (done ++ (e ∷ [])) es rest new (Fresh-more before done e.0 e.1 fresh) h.3 (n + 1) in (
      later.0,
      ap (λ f. and_then (after_form n (d ++ ((b, done) ∷ []), Some b) f) (λ t. after_lines (n + 1) t (setting_lines es ++ rest))) form
          ∙ ap (λ (c : Blocks). after_lines (n + 1) (c, Some b) (setting_lines es ++ rest)) put
          ∙ later.1
          ∙ ap (λ (ks : Entries). after_lines later.0 (d ++ ((b, ks) ∷ []), Some b) rest) (append_assoc done (e ∷ []) es),
    )

-- the lines of blocks add them to the deck
reads-blocks : (before : List Text) (done d : Blocks) (current : Option Text) (rest : List Text) → Fresh before done → AreBlocksAfter before d → (c : Option Text) × Reads (done, current) (deck_lines d ++ rest) (done ++ d, c) rest
unfolding Fresh Reads
reads-blocks before done [] current rest fresh h = (current, λ n. (n, ap (λ (ks : Blocks). after_lines n (ks, current) rest) (sym (append-nil done))))
reads-blocks before done (e ∷ d) current rest fresh h =
    let form = form_of-header_line e.0 h.0 in
    let absent : lookup (bytes_eq e.0) done ≡ None = fresh e.0 h.2 in
    let later = reads-blocks (e.0 ∷ before) (done ++ (e ∷ [])) d (Some e.0) rest (Fresh-more before done e.0 e.1 fresh) h.3 in (
      later.0,
      λ n.
          let keys = reads-keys done e.0 [] [] e.1 (deck_lines d ++ rest) absent (λ q _. refl) h.1 (n + 1) in
          let more = later.1 keys.0 in (
            more.0,
            ap (λ f. and_then (after_form n (done, current) f) (λ t. after_lines (n + 1) t ((setting_lines e.1 ++ deck_lines d) ++ rest))) form
                ∙ ap (λ (c : Blocks). after_lines (n + 1) (c, Some e.0) ((setting_lines e.1 ++ deck_lines d) ++ rest)) (new-block done e.0 absent)
                ∙ ap (after_lines (n + 1) (done ++ ((e.0, []) ∷ []), Some e.0)) (append_assoc (setting_lines e.1) (deck_lines d) rest)
                ∙ keys.1
                ∙ more.1
                ∙ ap (λ (ks : Blocks). after_lines more.0 (ks, later.0) rest) (append_assoc done (e ∷ []) d),
          ),
    )

-- ---- the lines of a text

-- no line has LF in it
Whole : List Text → Type 0
Whole [] = Unit {0}
Whole (l ∷ ls) = (list_any (λ b. nat_eq b 10) l ≡ false) × Whole ls

whole-append : (xs ys : List Text) → Whole xs → Whole ys → Whole (xs ++ ys)
unfolding Whole
whole-append [] ys hx hy = hy
whole-append (x ∷ xs) ys hx hy = (hx.0, whole-append xs ys hx.1 hy)

whole-setting_lines : (before : List Text) (es : Entries) → AreKeysAfter before es → Whole (setting_lines es)
unfolding Whole
whole-setting_lines before [] h = tt
whole-setting_lines before (e ∷ es) h = (setting_line-whole e.0 e.1 h.0 h.1, whole-setting_lines (e.0 ∷ before) es h.3)

whole-deck_lines : (before : List Text) (d : Blocks) → AreBlocksAfter before d → Whole (deck_lines d)
unfolding Whole
whole-deck_lines before [] h = tt
whole-deck_lines before (e ∷ d) h = (header_line-whole e.0 h.0, whole-append (setting_lines e.1) (deck_lines d) (whole-setting_lines [] e.1 h.1) (whole-deck_lines (e.0 ∷ before) d h.3))

split-at : (xs ys : Text) → list_any (λ b. nat_eq b 10) xs ≡ false → lines_of (xs ++ (10 ∷ ys)) ≡ xs ∷ lines_of ys
split-at [] ys h = refl
split-at (x ∷ xs) ys h =
    let parts = or-parts (nat_eq x 10) (list_any (λ b. nat_eq b 10) xs) h in
    rw (parts.0, split-at xs ys parts.1) refl

-- the lines of a text are those that it was made of, and an empty one after the last LF
lines-of-text : (ls : List Text) → Whole ls → lines_of (text_of_lines ls) ≡ ls ++ ([] ∷ [])
unfolding Whole
lines-of-text [] h = refl
lines-of-text (l ∷ ls) h = split-at l (text_of_lines ls) h.0 ∙ ap (λ (xs : List Text). l ∷ xs) (lines-of-text ls h.1)

-- the deck of a deck's text is the deck
pub deck_of_printed : (d : Blocks) → AreBlocks d → deck_of_text (printed d) ≡ Ok d
unfolding Fresh Reads
deck_of_printed d h =
    let read = reads-blocks [] [] d None ([] ∷ []) (λ q _. refl) h in
    let ran = read.1 1 in
    ap (λ (ls : List Text). and_then (after_lines 1 ([], None) ls) (λ s. Ok s.0)) (lines-of-text (deck_lines d) (whole-deck_lines [] d h))
    ∙ ap (λ (r : Result Reading DeckFault). and_then r (λ s. Ok s.0)) ran.1

pub read_back : (d : Blocks) (bytes : List ℕ) → AreBlocks d → IsUtf8 bytes → bytes ≡ printed d → length bytes ≤ 1048576 → deck bytes ≡ Ok d
read_back d bytes h text is short = deck-text bytes short text ∙ ap deck_of_text is ∙ deck_of_printed d h
