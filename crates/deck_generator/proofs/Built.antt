-- The calls that set keys one after another leave the generated deck.
use Rattle.std.proofs.Common.{◌≡◌, ◌≢◌, ◌<◌, ◌≤◌, ◌+◌, ◌*◌, ◌^◌, ◌++◌, ◌∷◌, [], ℕ, zero, suc, Bool, true, false, cond, List, map, Some, None, refl, sym, ap, ◌∙◌, arith, append_assoc}
use Rattle.std.proofs.lemmas.List.{append-nil}
use Rattle.std.specs.Prelude.{codes, unwrap_or}
use Rattle.std.specs.List.{range_with_len}
use Rattle.std.specs.Fmt.{decimal}
use Rattle.std.specs.Str.{bytes_eq}
use Rattle.std.specs.Map.{lookup}
use Rattle.std.proofs.lemmas.Slice.Eq.{bytes_eq-Decides}
use Rattle.std.proofs.lemmas.Fmt.{decimal_injective}
use Rattle.std.proofs.lemmas.List.FromFn.{map-range_with_len_more}
use Rattle.indexmap.specs.IndexMap.{insert_entry}
use Rattle.input_file.specs.Texts.{Text}
use Rattle.input_file.specs.Blocks.{Entries, Blocks, keys_of, set}
use Rattle.deck_generator.specs.declared.form.Form.{Form}
use Rattle.deck_generator.specs.Generated.{drawn, box_name, box_settings, box_block, first_blocks, last_blocks, reaction_settings, criterion_settings, generated_of}
use Rattle.deck_generator.specs.Settings.{with_settings, with_boxes, with_mesh, with_field, with_rules}

pub bytes_eq-refl : (t : Text) → bytes_eq t t ≡ true
bytes_eq-refl t = (bytes_eq-Decides t t).1 refl

pub bytes_eq-not : (s t : Text) → s ≢ t → bytes_eq s t ≡ false
bytes_eq-not s t other = by (bytes_eq s t) refl where
  by : (b : Bool) → bytes_eq s t ≡ b → b ≡ false
  by true e = absurd (other ((bytes_eq-Decides s t).0 e))
  by false e = refl

-- a block that is not there
abbrev pub IsNew : Text → Blocks → Type 0
IsNew name d = lookup (bytes_eq name) d ≡ None

inserted_last : (d : Blocks) (name : Text) (ks : Entries) → IsNew name d → insert_entry bytes_eq d name ks ≡ d ++ (name, ks) ∷ []
inserted_last [] name ks h = refl
inserted_last (x ∷ d) name ks h =
    (elim (bytes_eq name x.0) as (λ b. cond b (Some x.1) (lookup (bytes_eq name) d) ≡ None → cond b ((x.0, ks) ∷ d) (x ∷ insert_entry bytes_eq d name ks) ≡ x ∷ (d ++ (name, ks) ∷ []))
    [ true ↦ λ found. absurd (cc) | false ↦ λ absent. ap (λ (es : Blocks). x ∷ es) (inserted_last d name ks absent) ]) h

found_last : (d : Blocks) (name : Text) (ks : Entries) → IsNew name d → lookup (bytes_eq name) (d ++ (name, ks) ∷ []) ≡ Some ks
found_last [] name ks h = rw (bytes_eq-refl name) refl
found_last (x ∷ d) name ks h =
    (elim (bytes_eq name x.0) as (λ b. cond b (Some x.1) (lookup (bytes_eq name) d) ≡ None → cond b (Some x.1) (lookup (bytes_eq name) (d ++ (name, ks) ∷ [])) ≡ Some ks)
    [ true ↦ λ found. absurd (cc) | false ↦ λ absent. found_last d name ks absent ]) h

changed_last : (d : Blocks) (name : Text) (ks ls : Entries) → IsNew name d → insert_entry bytes_eq (d ++ (name, ks) ∷ []) name ls ≡ d ++ (name, ls) ∷ []
changed_last [] name ks ls h = rw (bytes_eq-refl name) refl
changed_last (x ∷ d) name ks ls h =
    (elim (bytes_eq name x.0) as (λ b. cond b (Some x.1) (lookup (bytes_eq name) d) ≡ None → cond b ((x.0, ls) ∷ (d ++ (name, ks) ∷ [])) (x ∷ insert_entry bytes_eq (d ++ (name, ks) ∷ []) name ls) ≡ x ∷ (d ++ (name, ls) ∷ []))
    [ true ↦ λ found. absurd (cc) | false ↦ λ absent. ap (λ (es : Blocks). x ∷ es) (changed_last d name ks ls absent) ]) h

-- keys that are set one after another in a block
inserted : Entries → Entries → Entries
inserted ks [] = ks
inserted ks (e ∷ es) = inserted (insert_entry bytes_eq ks e.0 e.1) es

set_last : (d : Blocks) (name : Text) (ks es : Entries) → IsNew name d → with_settings (d ++ (name, ks) ∷ []) name es ≡ d ++ (name, inserted ks es) ∷ []
unfolding with_settings inserted
set_last d name ks [] h = refl
set_last d name ks (e ∷ es) h =
    ap (λ (b : Blocks). with_settings b name es)
    (ap (λ o. insert_entry bytes_eq (d ++ (name, ks) ∷ []) name (insert_entry bytes_eq (unwrap_or o []) e.0 e.1)) (found_last d name ks h)
    ∙ changed_last d name ks (insert_entry bytes_eq ks e.0 e.1) h)
    ∙ set_last d name (insert_entry bytes_eq ks e.0 e.1) es h

-- the keys of a new block go last
new_block : (d : Blocks) (name : Text) (e : Text × Text) (es : Entries) → IsNew name d → with_settings d name (e ∷ es) ≡ d ++ (name, inserted (e ∷ []) es) ∷ []
unfolding with_settings inserted
new_block d name e es h =
    ap (λ (b : Blocks). with_settings b name es)
    (ap (λ o. insert_entry bytes_eq d name (insert_entry bytes_eq (unwrap_or o []) e.0 e.1)) h ∙ inserted_last d name (e ∷ []) h)
    ∙ set_last d name (e ∷ []) es h

-- boxes of different numbers have different names
other_box : (i j : ℕ) → i < 2 ^ 64 → j < 2 ^ 64 → j < i → bytes_eq (box_name i) (box_name j) ≡ false
other_box i j hi hj lt = bytes_eq-not (box_name i) (box_name j) (λ e. let d : decimal i ≡ decimal j = same_tail e in let same : i ≡ j = decimal_injective i j hi hj d in absurd (omega (arith, same, lt)))
  where
    same_tail : box_name i ≡ box_name j → decimal i ≡ decimal j
    same_tail e = cc

-- a box is new among the boxes before it
new_box : (f : Form) (seed n a i : ℕ) → a + n ≤ i → i < 2 ^ 64 → IsNew (box_name i) (map (box_block f seed) (range_with_len a n))
new_box f seed zero a i le hi = refl
new_box f seed (suc n) a i le hi =
    rw (other_box i a hi (omega (arith, le, hi)) (omega (arith, le))) (new_box f seed n (a + 1) i (omega (arith, le)) hi)

-- the boxes go behind the blocks before them
pub boxes_built : (f : Form) (seed n : ℕ) → n < 2 ^ 64 → with_boxes f seed (first_blocks f seed) n ≡ first_blocks f seed ++ map (box_block f seed) (range_with_len 0 n)
unfolding with_boxes inserted
boxes_built f seed zero h = sym (append-nil (first_blocks f seed))
boxes_built f seed (suc i) h =
    let before = map (box_block f seed) (range_with_len 0 i) in
    ap (λ (d : Blocks). with_settings d (box_name i) (box_settings f i (drawn seed (3 + 2 * i)) (drawn seed (4 + 2 * i)))) (boxes_built f seed i (omega (arith, h)))
    ∙ new_block (first_blocks f seed ++ before) (box_name i) _ _ (new_box f seed i 0 i (omega arith) (omega (arith, h)))
    ∙ append_assoc (first_blocks f seed) before (box_block f seed i ∷ [])
    ∙ ap (λ (d : Blocks). first_blocks f seed ++ d) (sym (one_more f seed i))
  where
    one_more : (f : Form) (seed i : ℕ) → map (box_block f seed) (range_with_len 0 (suc i)) ≡ map (box_block f seed) (range_with_len 0 i) ++ box_block f seed i ∷ []
    one_more f seed i = let q : suc i ≡ i + 1 = omega arith in ap (λ (m : ℕ). map (box_block f seed) (range_with_len 0 m)) q ∙ map-range_with_len_more (box_block f seed) 0 i i (omega arith)

-- a name that no box has is new among boxes
no_box : (f : Form) (seed : ℕ) (name : Text) → ((i : ℕ) → bytes_eq name (box_name i) ≡ false) → (n a : ℕ) → IsNew name (map (box_block f seed) (range_with_len a n))
no_box f seed name other zero a = refl
no_box f seed name other (suc n) a = rw (other a) (no_box f seed name other n (a + 1))

-- what is new in two lists is new in both together
new_in_both : (d e : Blocks) (name : Text) → IsNew name d → IsNew name e → IsNew name (d ++ e)
new_in_both [] e name hd he = he
new_in_both (x ∷ d) e name hd he =
    (elim (bytes_eq name x.0) as (λ b. cond b (Some x.1) (lookup (bytes_eq name) d) ≡ None → cond b (Some x.1) (lookup (bytes_eq name) (d ++ e)) ≡ None)
    [ true ↦ λ found. absurd (cc) | false ↦ λ absent. new_in_both d e name absent he ]) hd

rules_built : (d : Blocks) → IsNew (codes "reaction/r") d → IsNew (codes "criterion/c") d → with_rules d ≡ d ++ last_blocks
unfolding inserted
rules_built d hr hc =
    ap (λ (b : Blocks). with_settings b (codes "criterion/c") criterion_settings) (new_block d (codes "reaction/r") _ _ hr)
    ∙ new_block (d ++ (codes "reaction/r", reaction_settings) ∷ []) (codes "criterion/c") _ _ (new_in_both d ((codes "reaction/r", reaction_settings) ∷ []) (codes "criterion/c") hc refl)
    ∙ append_assoc d ((codes "reaction/r", reaction_settings) ∷ []) ((codes "criterion/c", criterion_settings) ∷ [])

first_built : (f : Form) (seed : ℕ) → with_field f seed (with_mesh f []) ≡ first_blocks f seed
unfolding with_settings
first_built f seed = refl

-- all calls together leave the generated deck
pub built : (f : Form) (seed : ℕ) → f.fields < 2 ^ 64 → with_rules (with_boxes f seed (with_field f seed (with_mesh f [])) f.fields) ≡ generated_of f seed
unfolding generated_of
built f seed h =
    let boxes = map (box_block f seed) (range_with_len 0 f.fields) in
    ap (λ (d : Blocks). with_rules (with_boxes f seed d f.fields)) (first_built f seed)
    ∙ ap with_rules (boxes_built f seed f.fields h)
    ∙ rules_built (first_blocks f seed ++ boxes) (no_box f seed (codes "reaction/r") (λ i. refl) f.fields 0) (no_box f seed (codes "criterion/c") (λ i. refl) f.fields 0)
