-- The text of a deck, appended block by block and key by key.
use Rattle.std.proofs.Common.{◌≡◌, ℕ, zero, suc, ◌+◌, List, [], ◌∷◌, ◌++◌, refl, ap, map, sym, ◌∙◌, drop, subst, append_assoc, arith}
use Rattle.std.specs.Prelude.{Option, Some, option_map, slice_get}
use Rattle.std.proofs.lemmas.Option.{slice_get-map}
use Rattle.input_file.specs.Texts.{Text}
use Rattle.input_file.specs.Blocks.{Entries, Blocks}
use Rattle.input_file.specs.Printed.{header_line, setting_line, setting_lines, deck_lines, text_of_lines, printed}

-- what is left from a place on is the item there and what is left from the next place on
drop-at : {X : Type 0} (xs : List X) (i : ℕ) (x : X) → slice_get xs i ≡ Some x → drop i xs ≡ x ∷ drop (i + 1) xs
drop-at [] i x at = absurd (cc)
drop-at (y ∷ xs) zero x at = let here : y ≡ x = cc in ap (λ z. z ∷ xs) here
drop-at (y ∷ xs) (suc i) x at = drop-at xs i x at ∙ ap (λ j. x ∷ drop j (y ∷ xs)) step
  where
    step : suc (i + 1) ≡ suc i + 1
    step = omega arith

pub text_of_lines-append : (xs ys : List Text) → text_of_lines (xs ++ ys) ≡ text_of_lines xs ++ text_of_lines ys
text_of_lines-append [] ys = refl
text_of_lines-append (x ∷ xs) ys = ap (λ t. x ++ (10 ∷ t)) (text_of_lines-append xs ys) ∙ sym (append_assoc x (10 ∷ text_of_lines xs) (text_of_lines ys))

-- one line more
line-more : (old line rest : Text) → (old ++ (line ++ (10 ∷ []))) ++ rest ≡ old ++ (line ++ (10 ∷ rest))
line-more old line rest = simp append_assoc

-- the texts at a place of a block's keys
pub texts-at : {X K V : Type 0} (f : K × V → X) (es : List (K × V)) (d : List X) (i : ℕ) (o : Option (K × V)) (k : K) (v : V) → map f es ≡ d → o ≡ slice_get es i → o ≡ Some (k, v) → slice_get d i ≡ Some (f (k, v))
texts-at f es d i o k v is at found = subst (λ xs. slice_get xs i ≡ Some (f (k, v))) is (slice_get-map f es i ∙ ap (option_map f) (sym at ∙ found))

pub setting-more : (es : Entries) (i : ℕ) (e : Text × Text) (old new : Text) → slice_get es i ≡ Some e → new ≡ old ++ (setting_line e.0 e.1 ++ (10 ∷ [])) → new ++ text_of_lines (setting_lines (drop (i + 1) es)) ≡ old ++ text_of_lines (setting_lines (drop i es))
setting-more es i e old new at is =
    ap (λ t. t ++ text_of_lines (setting_lines (drop (i + 1) es))) is
    ∙ line-more old (setting_line e.0 e.1) (text_of_lines (setting_lines (drop (i + 1) es)))
    ∙ ap (λ (xs : Entries). old ++ text_of_lines (setting_lines xs)) (sym (drop-at es i e at))

pub block-more : (d : Blocks) (i : ℕ) (e : Text × Entries) (old middle new : Text) → slice_get d i ≡ Some e → middle ≡ old ++ (header_line e.0 ++ (10 ∷ [])) → new ≡ middle ++ text_of_lines (setting_lines e.1) → new ++ printed (drop (i + 1) d) ≡ old ++ printed (drop i d)
block-more d i e old middle new at is_middle is_new =
    ap (λ t. t ++ printed (drop (i + 1) d)) (is_new ∙ ap (λ t. t ++ text_of_lines (setting_lines e.1)) is_middle)
    ∙ append_assoc (old ++ (header_line e.0 ++ (10 ∷ []))) (text_of_lines (setting_lines e.1)) (printed (drop (i + 1) d))
    ∙ line-more old (header_line e.0) (text_of_lines (setting_lines e.1) ++ printed (drop (i + 1) d))
    ∙ ap (λ t. old ++ (header_line e.0 ++ (10 ∷ t))) (sym (text_of_lines-append (setting_lines e.1) (deck_lines (drop (i + 1) d))))
    ∙ ap (λ (xs : Blocks). old ++ printed xs) (sym (drop-at d i e at))
