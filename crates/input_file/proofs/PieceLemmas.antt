-- Bytes that are read in pieces.
use Rattle.std.proofs.Common.{◌≡◌, ◌⊎◌, ℕ, suc, ◌+◌, ◌-◌, ◌<◌, ◌≤◌, Bool, true, false, List, [], ◌∷◌, ◌++◌, length, take, drop, get_or, get_or-take, length-take, length-drop, take_all, eqb-true, nat_eq, refl, sym, ap, ◌∙◌, arith, inl, inr, length-append, append_assoc, append-nil}
use Rattle.std.specs.Prelude.{if◌then◌else◌, nat_lt, position, Some, None, Result, Ok, Err, IfOk}
use Rattle.std.specs.List.{position_or_len}
use Rattle.std.specs.Str.{IsUtf8, IsValidUpTo}
use Rattle.std.specs.Str.Lossy.{utf8_valid_len}
use Rattle.std.proofs.lemmas.Bool.Decides.{nat_tests}
use Rattle.std.proofs.Math.Seq.{split_at as split-at-index}
use Rattle.std.proofs.lemmas.List.Elements.{All-append}
use Rattle.std.proofs.lemmas.List.Quantifiers.{position-Some}
use Rattle.std.proofs.lemmas.List.Sums.{fails_before_first}
use Rattle.std.proofs.lemmas.Bool.{cases_lt}
use Rattle.std.proofs.lemmas.List.Splits.{slice_split_none, slice_split_at}
use Rattle.std.proofs.lemmas.Str.{IsUtf8-encode}
use lib.Utf8.{encode}
use Rattle.input_file.specs.Texts.{Text}
use Rattle.input_file.specs.Blocks.{Blocks}
use Rattle.input_file.specs.Lines.{form_of}
use Rattle.input_file.specs.Decks.{Reading, and_then, after_form, after_lines, lines_of}
use Rattle.input_file.specs.Unended.{IsUnended}
use Rattle.input_file.specs.declared.so_far.SoFar.{SoFar}
use Rattle.input_file.specs.Answers.{Answers}
use Rattle.input_file.specs.Pieces.{Continues, outcome_with, length_so_far, found_of, after_text, after_no_text, after_line, or_no_text, outcome, found_deck}
use Rattle.input_file.specs.declared.fault.NoMemory.{NoMemory}
use Rattle.input_file.specs.declared.fault.DeckFault.{DeckFault}
use Rattle.input_file.specs.declared.fault.DeckFault.TheVariants.{NotText}
use Rattle.input_file.specs.declared.found.Found.{Found}
use Rattle.input_file.specs.declared.found.Found.TheVariants.{Good, Bad, Stopped}
use Rattle.input_file.proofs.Utf8Lemmas.{utf8-cases, valid_len-after, valid_len-stopped, text-whole}

-- ---- one line

pub line-of-text : (number start : ℕ) (found : Found) (line : Text) → IsUtf8 line → after_line number start found line ≡ after_text number found line
line-of-text number start found line u = rw (text-whole line u) refl

line-of-no-text : (number start : ℕ) (found : Found) (line : Text) → IsValidUpTo line (utf8_valid_len line) → after_line number start found line ≡ after_no_text (start + utf8_valid_len line) found
line-of-no-text number start found line cut =
    let short : utf8_valid_len line < length line = cut.short in
    let stops : nat_lt (utf8_valid_len line) (length line) ≡ true = grind (arith, nat_tests) in
    rw stops refl

-- an LF is a text
utf8-end : IsUtf8 (10 ∷ [])
unfolding encode
utf8-end = IsUtf8-encode 10 refl

more-text : (line rest : List ℕ) → IsUtf8 line → utf8_valid_len (line ++ 10 ∷ rest) ≡ utf8_valid_len rest + (length line + 1)
more-text line rest u =
    let front : utf8_valid_len (line ++ 10 ∷ rest) ≡ length line + utf8_valid_len (10 ∷ rest) = valid_len-after line (10 ∷ rest) u in
    let end : utf8_valid_len (10 ∷ rest) ≡ 1 + utf8_valid_len rest = valid_len-after (10 ∷ []) rest utf8-end in
    omega arith

-- behind a line that is text, what follows is judged by itself
or_no_text-after : (start : ℕ) (line rest : Text) (answer : Result Blocks DeckFault) → IsUtf8 line → or_no_text start (line ++ 10 ∷ rest) answer ≡ or_no_text (start + length line + 1) rest answer
or_no_text-after start line rest answer u =
    let valid : utf8_valid_len (line ++ 10 ∷ rest) ≡ utf8_valid_len rest + (length line + 1) = more-text line rest u in
    let whole : length (line ++ 10 ∷ rest) ≡ length rest + (length line + 1) = length-append line (10 ∷ rest) ∙ omega arith in
    let same : nat_lt (utf8_valid_len (line ++ 10 ∷ rest)) (length (line ++ 10 ∷ rest)) ≡ nat_lt (utf8_valid_len rest) (length rest) = rw (valid, whole) (grind (arith, nat_tests)) in
    let place : start + utf8_valid_len (line ++ 10 ∷ rest) ≡ start + length line + 1 + utf8_valid_len rest = omega arith in
    rw (same, place) refl

or_no_text-stopped : (start : ℕ) (line rest : Text) (answer : Result Blocks DeckFault) → IsValidUpTo line (utf8_valid_len line) → or_no_text start (line ++ 10 ∷ rest) answer ≡ Err (NotText (start + utf8_valid_len line))
or_no_text-stopped start line rest answer cut =
    let short : utf8_valid_len line < length line = cut.short in
    let valid : utf8_valid_len (line ++ 10 ∷ rest) ≡ utf8_valid_len line = valid_len-stopped line rest cut in
    let whole : length (line ++ 10 ∷ rest) ≡ length line + suc (length rest) = length-append line (10 ∷ rest) in
    let stops : nat_lt (utf8_valid_len (line ++ 10 ∷ rest)) (length (line ++ 10 ∷ rest)) ≡ true = grind (arith, nat_tests) in
    rw (stops, valid) refl

or_no_text-here : (start : ℕ) (line : Text) (answer : Result Blocks DeckFault) → IsUtf8 line → or_no_text start line answer ≡ answer
or_no_text-here start line answer u = rw (text-whole line u) refl

or_no_text-fault : (start : ℕ) (line : Text) (answer : Result Blocks DeckFault) → IsValidUpTo line (utf8_valid_len line) → or_no_text start line answer ≡ Err (NotText (start + utf8_valid_len line))
or_no_text-fault start line answer cut =
    let short : utf8_valid_len line < length line = cut.short in
    let stops : nat_lt (utf8_valid_len line) (length line) ≡ true = grind (arith, nat_tests) in
    rw stops refl

-- the first line ends at the first LF
lines-first : (line rest : Text) → IsUnended line → lines_of (line ++ 10 ∷ rest) ≡ line ∷ lines_of rest
lines-first line rest unended = slice_split_at (λ (b : ℕ). nat_eq b 10) line 10 rest unended refl

lines-only : (line : Text) → IsUnended line → lines_of line ≡ line ∷ []
lines-only line unended = slice_split_none (λ (b : ℕ). nat_eq b 10) line unended

-- the blocks of what lines make
blocks_of : Result Reading DeckFault → Result Blocks DeckFault
blocks_of read = and_then read (λ t. Ok t.0)

-- what was found in a line that is text decides as the line does
found-decides : (number next start : ℕ) (read : Result Reading DeckFault) (rest : Text) → or_no_text start rest (blocks_of (and_then read (λ t. after_lines next t (lines_of rest)))) ≡ outcome (found_of read) next start rest
unfolding blocks_of
found-decides number next start (Ok s) rest = refl
found-decides number next start (Err fault) rest = refl

after-text-line : (found : Found) (number start : ℕ) (line rest : Text) → IsUtf8 line → IsUnended line → outcome (after_text number found line) (number + 1) (start + length line + 1) rest ≡ outcome found number start (line ++ 10 ∷ rest)
unfolding blocks_of
after-text-line (Good s) number start line rest u unended =
    sym (or_no_text-after start line rest (blocks_of (after_lines number s (lines_of (line ++ 10 ∷ rest)))) u
    ∙ ap (λ (ls : List Text). or_no_text (start + length line + 1) rest (blocks_of (after_lines number s ls))) (lines-first line rest unended)
    ∙ found-decides number (number + 1) (start + length line + 1) (after_form number s (form_of line)) rest)
after-text-line (Bad fault) number start line rest u unended = sym (or_no_text-after start line rest (Err fault) u)
after-text-line (Stopped place) number start line rest u unended = refl

after-no-text-line : (found : Found) (number start : ℕ) (line rest : Text) → IsValidUpTo line (utf8_valid_len line) → outcome (after_no_text (start + utf8_valid_len line) found) (number + 1) (start + length line + 1) rest ≡ outcome found number start (line ++ 10 ∷ rest)
after-no-text-line (Good s) number start line rest cut = sym (or_no_text-stopped start line rest (and_then (after_lines number s (lines_of (line ++ 10 ∷ rest))) (λ t. Ok t.0)) cut)
after-no-text-line (Bad fault) number start line rest cut = sym (or_no_text-stopped start line rest (Err fault) cut)
after-no-text-line (Stopped place) number start line rest cut = refl

-- what was found after a line gives of the rest what was found before gives of the line and the rest
pub line-read : (found : Found) (number start : ℕ) (line rest : Text) → IsUnended line → outcome (after_line number start found line) (number + 1) (start + length line + 1) rest ≡ outcome found number start (line ++ 10 ∷ rest)
line-read found number start line rest unended = by (utf8-cases line)
  where
    by : IsUtf8 line ⊎ IsValidUpTo line (utf8_valid_len line) → outcome (after_line number start found line) (number + 1) (start + length line + 1) rest ≡ outcome found number start (line ++ 10 ∷ rest)
    by (inl u) = ap (λ (f : Found). outcome f (number + 1) (start + length line + 1) rest) (line-of-text number start found line u) ∙ after-text-line found number start line rest u unended
    by (inr cut) = ap (λ (f : Found). outcome f (number + 1) (start + length line + 1) rest) (line-of-no-text number start found line cut) ∙ after-no-text-line found number start line rest cut

-- ---- the last line

last-decides : (number start : ℕ) (read : Result Reading DeckFault) → blocks_of (and_then read (λ t. after_lines number t [])) ≡ found_deck (found_of read)
unfolding blocks_of
last-decides number start (Ok s) = refl
last-decides number start (Err fault) = refl

last-text : (found : Found) (number start : ℕ) (line : Text) → IsUtf8 line → IsUnended line → outcome found number start line ≡ found_deck (after_text number found line)
unfolding blocks_of
last-text (Good s) number start line u unended =
    or_no_text-here start line (blocks_of (after_lines number s (lines_of line))) u
    ∙ ap (λ (ls : List Text). blocks_of (after_lines number s ls)) (lines-only line unended)
    ∙ last-decides (number + 1) start (after_form number s (form_of line))
last-text (Bad fault) number start line u unended = or_no_text-here start line (Err fault) u
last-text (Stopped place) number start line u unended = refl

last-no-text : (found : Found) (number start : ℕ) (line : Text) → IsValidUpTo line (utf8_valid_len line) → outcome found number start line ≡ found_deck (after_no_text (start + utf8_valid_len line) found)
last-no-text (Good s) number start line cut = or_no_text-fault start line (and_then (after_lines number s (lines_of line)) (λ t. Ok t.0)) cut
last-no-text (Bad fault) number start line cut = or_no_text-fault start line (Err fault) cut
last-no-text (Stopped place) number start line cut = refl

-- the deck of what was found after the last line is what was found before gives of it
pub last-read : (found : Found) (number start : ℕ) (line : Text) → IsUnended line → outcome found number start line ≡ found_deck (after_line number start found line)
last-read found number start line unended = by (utf8-cases line)
  where
    by : IsUtf8 line ⊎ IsValidUpTo line (utf8_valid_len line) → outcome found number start line ≡ found_deck (after_line number start found line)
    by (inl u) = last-text found number start line u unended ∙ ap found_deck (sym (line-of-text number start found line u))
    by (inr cut) = last-no-text found number start line cut ∙ ap found_deck (sym (line-of-no-text number start found line cut))

-- ---- pieces

pub unended-joined : (front back : Text) → IsUnended front → IsUnended back → IsUnended (front ++ back)
unended-joined front back = All-append (λ (b : ℕ). nat_eq b 10 ≡ false) front back

-- bytes with an LF, cut at the first
pub record CutAt (i : ℕ) (bytes : Text) : Type 0 where
  pub parts : bytes ≡ take i bytes ++ 10 ∷ take (length bytes - (i + 1)) (drop (i + 1) bytes)
  pub before : IsUnended (take i bytes)

pub cut-at : (bytes : Text) (i : ℕ) → position (λ (b : ℕ). nat_eq b 10) bytes ≡ Some i → CutAt i bytes
cut-at bytes i is =
    let at : (i < length bytes) × (nat_eq (get_or bytes i 0) 10 ≡ true) × ((k : ℕ) → k < i → nat_eq (get_or bytes k 0) 10 ≡ false) = position-Some (λ (b : ℕ). nat_eq b 10) bytes i 0 is in
    let end : get_or bytes i 0 ≡ 10 = eqb-true (get_or bytes i 0) 10 at.1 in
    record {
      parts =
          let next : suc i ≡ i + 1 = omega arith in
          let short : length (drop (i + 1) bytes) ≤ length bytes - (i + 1) = omega (arith, length-drop (i + 1) bytes) in
          split-at-index bytes i 0 at.0 ∙ ap (λ (b : ℕ). take i bytes ++ b ∷ drop (suc i) bytes) end
          ∙ ap (λ (k : ℕ). take i bytes ++ 10 ∷ drop k bytes) next
          ∙ ap (λ (t : Text). take i bytes ++ 10 ∷ t) (sym (take_all (length bytes - (i + 1)) (drop (i + 1) bytes) short));
      before = λ k d within.
          let less : k < i = omega (arith, length-take i bytes) in
          let passed = position-Some (λ (b : ℕ). nat_eq b 10) bytes i d is in
          ap (λ (b : ℕ). nat_eq b 10) (get_or-take i bytes k d less) ∙ passed.2 k less;
    }

none-means : (place size : ℕ) → (if nat_lt place size then Some place else None) ≡ None → size ≤ place
none-means place size is = by (cases_lt place size)
  where
    by : (place < size) ⊎ (size ≤ place) → size ≤ place
    by (inl less) =
        let found : nat_lt place size ≡ true = grind (arith, nat_tests) in
        absurd (no-place (sym (ap (λ (b : Bool). if b then Some place else None) found) ∙ is))
      where
        no-place : Some place ≡ None → ⊥
        no-place e = cc
    by (inr past) = past

pub no-cut : (bytes : Text) → position (λ (b : ℕ). nat_eq b 10) bytes ≡ None → IsUnended bytes
no-cut bytes is =
    let past : length bytes ≤ position_or_len (λ (b : ℕ). nat_eq b 10) bytes = none-means (position_or_len (λ (b : ℕ). nat_eq b 10) bytes) (length bytes) is in
    λ k d within. fails_before_first (λ (b : ℕ). nat_eq b 10) bytes k d (omega arith)

-- the line that has not ended ends with these bytes
pub line-ended : (old new : SoFar) (tail : Text) → IsUnended (old.line.items ++ tail) → new.found ≡ after_line old.number old.ended old.found (old.line.items ++ tail) → new.number ≡ old.number + 1 → new.ended ≡ old.ended + (length old.line.items + length tail) + 1 → new.line.items ≡ [] → Continues old (tail ++ 10 ∷ []) new
line-ended old new tail unended found number ended line = record {
  length_is =
      let size : length new.line.items ≡ 0 = ap length line in
      let piece : length (tail ++ 10 ∷ []) ≡ length tail + 1 = length-append tail (10 ∷ []) in
      omega arith;
  outcome_is = λ rest.
      let start : new.ended ≡ old.ended + length (old.line.items ++ tail) + 1 = omega (arith, length-append old.line.items tail) in
      let joined : (old.line.items ++ tail) ++ 10 ∷ rest ≡ old.line.items ++ ((tail ++ 10 ∷ []) ++ rest) = append_assoc old.line.items tail (10 ∷ rest) ∙ ap (λ (t : Text). old.line.items ++ t) (sym (append_assoc tail (10 ∷ []) rest)) in
      ap (λ (t : Text). outcome new.found new.number new.ended (t ++ rest)) line
      ∙ ap (λ (n : ℕ). outcome new.found new.number n rest) start
      ∙ ap (λ (n : ℕ). outcome new.found n (old.ended + length (old.line.items ++ tail) + 1) rest) number
      ∙ ap (λ (f : Found). outcome f (old.number + 1) (old.ended + length (old.line.items ++ tail) + 1) rest) found
      ∙ line-read old.found old.number old.ended (old.line.items ++ tail) rest unended
      ∙ ap (λ (t : Text). outcome old.found old.number old.ended t) joined;
}

-- what is left of a piece once some of it was read
pub Left : SoFar → List ℕ → SoFar → List ℕ → Type 0
Left first piece r rest = (tail : List ℕ) → outcome_with r (rest ++ tail) ≡ outcome_with first (piece ++ tail)

pub left-more : (first r new : SoFar) (piece rest front later : List ℕ) → Left first piece r rest → Continues r front new → rest ≡ front ++ later → Left first piece new later
unfolding Left
left-more first r new piece rest front later left more parts tail =
    more.outcome_is (later ++ tail)
    ∙ ap (outcome_with r) (sym (append_assoc front later tail))
    ∙ ap (λ (t : List ℕ). outcome_with r (t ++ tail)) (sym parts)
    ∙ left tail

pub left-first : (first : SoFar) (piece : List ℕ) → Left first piece first piece
unfolding Left
left-first first piece tail = refl

pub left-last : (first r new : SoFar) (piece rest : List ℕ) → length_so_far r + length rest ≡ length_so_far first + length piece → Left first piece r rest → Continues r rest new → Continues first piece new
unfolding Left
left-last first r new piece rest size left more = record {
  length_is = more.length_is ∙ size;
  outcome_is = λ tail. more.outcome_is tail ∙ left tail;
}

pub left-last-ok : (first r : SoFar) (result : Result SoFar NoMemory) (piece rest : List ℕ) → length_so_far r + length rest ≡ length_so_far first + length piece → Left first piece r rest → IfOk result (λ (new : SoFar). Continues r rest new) → IfOk result (λ (new : SoFar). Continues first piece new)
left-last-ok first r (Ok new) piece rest size left more = left-last first r new piece rest size left more
left-last-ok first r (Err e) piece rest size left more = more

-- the answer of a definition answers it
pub answers-itself : (answer given : Result Blocks DeckFault) → answer ≡ given → Answers (λ (d : Blocks). d) answer given
answers-itself (Ok d) given is = sym is
answers-itself (Err fault) given is = inr (sym is)

-- the deck of what was read is what its last line gives
pub finished : (r : SoFar) (found : Found) → IsUnended r.line.items → found ≡ after_line r.number r.ended r.found r.line.items → outcome_with r [] ≡ found_deck found
finished r found unended is =
    ap (λ (t : Text). outcome r.found r.number r.ended t) (append-nil r.line.items)
    ∙ last-read r.found r.number r.ended r.line.items unended
    ∙ ap found_deck (sym is)
