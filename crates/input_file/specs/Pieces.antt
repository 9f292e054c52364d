-- What a reader that is fed a deck's bytes in pieces has read so far.
use Rattle.std.specs.Prelude.{◌≡◌, ℕ, ◌+◌, ◌<◌, List, [], ◌++◌, None, Result, Ok, Err, if◌then◌else◌, nat_lt, length}
use Rattle.std.specs.Str.Lossy.{utf8_valid_len}
use Rattle.input_file.specs.Texts.{Text}
use Rattle.input_file.specs.Blocks.{Blocks}
use Rattle.input_file.specs.Lines.{form_of}
use Rattle.input_file.specs.Decks.{Reading, and_then, after_form, after_lines, lines_of, greatest_length}
use Rattle.input_file.specs.declared.fault.DeckFault.{DeckFault}
use Rattle.input_file.specs.declared.fault.DeckFault.TheVariants.{NotText}
use Rattle.input_file.specs.declared.found.Found.{Found}
use Rattle.input_file.specs.declared.found.Found.TheVariants.{Good, Bad, Stopped}
use Rattle.input_file.specs.declared.so_far.SoFar.{SoFar}
use Rattle.input_file.specs.declared.pieces.DeckReader.{DeckReader}
use Rattle.input_file.specs.declared.pieces.State.{State}
use Rattle.input_file.specs.declared.pieces.State.TheVariants.{Reading as reading, TooLong, Refused}

-- what was found, once a line gave this
abbrev pub found_of : Result Reading DeckFault → Found
found_of (Ok s) = Good s
found_of (Err fault) = Bad fault

-- what was found after a line that is text, where it is the line with this number
abbrev pub after_text : ℕ → Found → Text → Found
after_text number (Good s) text = found_of (after_form number s (form_of text))
after_text number (Bad fault) text = Bad fault
after_text number (Stopped place) text = Stopped place

-- what was found after a line that is no text, where no character begins at this byte
abbrev pub after_no_text : ℕ → Found → Found
after_no_text place (Good s) = Stopped place
after_no_text place (Bad fault) = Stopped place
after_no_text place (Stopped first) = Stopped first

-- what was found after a line, where it has this number and begins at this byte
abbrev pub after_line : ℕ → ℕ → Found → Text → Found
after_line number start found line =
    if nat_lt (utf8_valid_len line) (length line) then after_no_text (start + utf8_valid_len line) found
    else after_text number found line

-- this answer, unless the bytes from this place on are no text
abbrev pub or_no_text : ℕ → Text → Result Blocks DeckFault → Result Blocks DeckFault
or_no_text start rest answer =
    if nat_lt (utf8_valid_len rest) (length rest) then Err (NotText (start + utf8_valid_len rest)) else answer

-- what a deck's bytes give by what was found in the lines before this byte, and by all bytes from there on, of which
-- the first line has this number
abbrev pub outcome : Found → ℕ → ℕ → Text → Result Blocks DeckFault
outcome (Good s) number start rest = or_no_text start rest (and_then (after_lines number s (lines_of rest)) (λ t. Ok t.0))
outcome (Bad fault) number start rest = or_no_text start rest (Err fault)
outcome (Stopped place) number start rest = Err (NotText place)

-- what a deck's bytes give by what was read so far, when these bytes follow
abbrev pub outcome_with : SoFar → Text → Result Blocks DeckFault
outcome_with r rest = outcome r.found r.number r.ended (r.line.items ++ rest)

-- the deck by what was found in all lines of it
abbrev pub found_deck : Found → Result Blocks DeckFault
found_deck (Good s) = Ok s.0
found_deck (Bad fault) = Err fault
found_deck (Stopped place) = Err (NotText place)

-- how many bytes were read so far
abbrev pub length_so_far : SoFar → ℕ
length_so_far r = r.ended + length r.line.items

-- after this piece: whatever follows, the deck is what it was to be when the piece and then this follows
pub record Continues (old : SoFar) (piece : List ℕ) (new : SoFar) : Type 0 where
  pub length_is : length_so_far new ≡ length_so_far old + length piece
  pub outcome_is : (rest : List ℕ) → outcome_with new rest ≡ outcome_with old (piece ++ rest)

-- the bytes so far were read: whatever follows them, the deck is what it is by the reading of all from the start
pub record HasReadAll (r : SoFar) (bytes : List ℕ) : Type 0 where
  pub length_is : length_so_far r ≡ length bytes
  pub outcome_is : (rest : List ℕ) → outcome_with r rest ≡ outcome (Good ([], None)) 1 0 (bytes ++ rest)

-- a reader in this state has read these bytes; of too many it knows no more
abbrev pub StateHasRead : State → List ℕ → Type 0
StateHasRead (reading r) bytes = HasReadAll r bytes
StateHasRead TooLong bytes = greatest_length < length bytes
StateHasRead Refused bytes = ⊥

-- the reader has read these bytes
abbrev pub HasRead : DeckReader → List ℕ → Type 0
HasRead reader bytes = StateHasRead reader.state bytes

-- the reader was out of memory, and has read nothing
abbrev pub IsRefused : DeckReader → Type 0
IsRefused reader = reader.state ≡ Refused
