-- The deck of some bytes has no fault of an override.
use Rattle.std.proofs.Common.{◌≡◌, ℕ, ◌≤◌, ◌+◌, List, [], ◌∷◌, inl, inr, refl, ap, length, subst, arith, Bool, true, false, nat_lt}
use Rattle.std.specs.Prelude.{if◌then◌else◌, Some, None, Result, Ok, Err}
use Rattle.std.specs.Str.{IsUtf8}
use Rattle.std.specs.Str.Lossy.{utf8_valid_len}
use Rattle.std.proofs.lemmas.Str.{utf8_valid_len-IsUtf8}
use Rattle.std.proofs.lemmas.Bool.Decides.{nat_tests}
use Rattle.input_file.specs.Texts.{Text}
use Rattle.input_file.specs.Blocks.{Blocks}
use Rattle.input_file.specs.Lines.{Form, blank, header, setting, malformed, form_of}
use Rattle.input_file.specs.Decks.{Reading, and_then, after_form, after_lines, lines_of, deck_of_text, deck, greatest_length}
use Rattle.input_file.specs.Answers.{Answers}
use Rattle.input_file.specs.declared.fault.DeckFault.{DeckFault}
use Rattle.input_file.specs.declared.fault.DeckFault.TheVariants.{NotText, TooLong, BadOverride}

after_form-cases : (number : ℕ) (s : Reading) (form : Form) → (after_form number s form ≡ Err BadOverride) → ⊥
after_form-cases number s blank h = cc
after_form-cases number s (header name) h = cc
after_form-cases number (d, None) (setting key value) h = cc
after_form-cases number (d, Some block) (setting key value) h = cc
after_form-cases number s malformed h = cc

after_lines-cases : (number : ℕ) (s : Reading) (lines : List Text) → (after_lines number s lines ≡ Err BadOverride) → ⊥
after_lines-cases number s [] h = cc
after_lines-cases number s (line ∷ lines) h =
    step (after_form number s (form_of line)) (after_form-cases number s (form_of line)) (λ t. after_lines-cases (number + 1) t lines) h
  where
    step : (r : Result Reading DeckFault) → (r ≡ Err BadOverride → ⊥) → ((t : Reading) → after_lines (number + 1) t lines ≡ Err BadOverride → ⊥) → and_then r (λ t. after_lines (number + 1) t lines) ≡ Err BadOverride → ⊥
    step (Ok t) here later h = later t h
    step (Err e) here later h = here h

deck_of_text-cases : (t : Text) → (deck_of_text t ≡ Err BadOverride) → ⊥
deck_of_text-cases t h = step (after_lines 1 ([], None) (lines_of t)) (after_lines-cases 1 ([], None) (lines_of t)) h
  where
    step : (r : Result Reading DeckFault) → (r ≡ Err BadOverride → ⊥) → and_then r (λ s. Ok s.0) ≡ Err BadOverride → ⊥
    step (Ok s) here h = cc
    step (Err e) here h = here (ap Err (cc))

-- the deck of bytes that are a text and not too many is the deck of the text
pub deck-text : (bytes : List ℕ) → length bytes ≤ 1048576 → IsUtf8 bytes → deck bytes ≡ deck_of_text bytes
deck-text bytes short text =
    let fits : nat_lt greatest_length (length bytes) ≡ false = grind (arith, nat_tests) in
    let whole : nat_lt (length bytes) (length bytes) ≡ false = grind (arith, nat_tests) in
    rw (fits, utf8_valid_len-IsUtf8 bytes text, whole) refl

deck-cases : (bytes : List ℕ) → deck bytes ≡ Err BadOverride → ⊥
deck-cases bytes h = by (nat_lt greatest_length (length bytes)) (nat_lt (utf8_valid_len bytes) (length bytes)) h
  where
    by : (long cut : Bool) → (if long then Err TooLong else (if cut then Err (NotText (utf8_valid_len bytes)) else deck_of_text bytes)) ≡ Err BadOverride → ⊥
    by true cut is = cc
    by false true is = cc
    by false false is = deck_of_text-cases bytes is

-- no answer about a deck's bytes is a fault of an override
pub answer-cases : {T : Type 0} (view : T → Blocks) (r : Result T DeckFault) (bytes : List ℕ) → Answers view r (deck bytes) → (r ≡ Err BadOverride) → ⊥
answer-cases view (Ok x) bytes h is = cc
answer-cases view (Err e) bytes (inl none) is = cc
answer-cases {T} view (Err e) bytes (inr h) is =
    let fault : e ≡ BadOverride = cc in
    deck-cases bytes (subst (λ (f : DeckFault). deck bytes ≡ Err f) fault h)
