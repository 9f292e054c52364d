-- The deck that bytes give, or their first fault.
use Rattle.std.specs.Prelude.{ℕ, ◌==◌, ◌+◌, List, [], ◌∷◌, Option, Some, None, Result, Ok, Err, if◌then◌else◌, nat_lt, length}
use Rattle.std.specs.List.{slice_split}
use Rattle.std.specs.Str.Lossy.{utf8_valid_len}
use Rattle.input_file.specs.Texts.{Text}
use Rattle.input_file.specs.Blocks.{Blocks, with_block, set}
use Rattle.input_file.specs.Lines.{Form, blank, header, setting, malformed, form_of}
use Rattle.input_file.specs.declared.fault.DeckFault.{DeckFault}
use Rattle.input_file.specs.declared.fault.DeckFault.TheVariants.{Syntax, NoBlock, NotText, TooLong}

-- the most bytes that a deck is read from
abbrev pub greatest_length : ℕ
greatest_length = 1048576

-- a deck while its lines are read: the blocks so far, and the name of the current block once there was a header
abbrev pub Reading : Type 0
Reading = Blocks × Option Text

-- the result of a step, and then the next step on what it gives
abbrev pub and_then : {T U E : Type 0} → Result T E → (T → Result U E) → Result U E
and_then (Ok x) next = next x
and_then (Err e) next = Err e

-- what a key line makes of the deck so far, where it is the line with this number: the key is set in the current block
abbrev pub after_setting : ℕ → Blocks → Option Text → Text → Text → Result Reading DeckFault
after_setting number d None key value = Err (NoBlock number)
after_setting number d (Some block) key value = Ok (set d block key value, Some block)

-- what a line makes of the deck so far, by its form
abbrev pub after_form : ℕ → Reading → Form → Result Reading DeckFault
after_form number s blank = Ok s
after_form number s (header name) = Ok (with_block s.0 name, Some name)
after_form number s (setting key value) = after_setting number s.0 s.1 key value
after_form number s malformed = Err (Syntax number)

-- what lines make of the deck so far, where the first has this number; the first bad line decides
abbrev pub after_lines : ℕ → Reading → List Text → Result Reading DeckFault
after_lines number s [] = Ok s
after_lines number s (line ∷ lines) = and_then (after_form number s (form_of line)) (λ t. after_lines (number + 1) t lines)

-- the lines of a text: they end with LF, and what follows the last LF is a line too
abbrev pub lines_of : Text → List Text
lines_of t = slice_split (λ b. b == 10) t

-- the deck of a text, whose lines are counted from 1
abbrev pub deck_of_text : Text → Result Blocks DeckFault
deck_of_text t = and_then (after_lines 1 ([], None) (lines_of t)) (λ s. Ok s.0)

-- the deck of some bytes, or the first fault: too many bytes, then bytes that are no text, then the first bad line
abbrev pub deck : List ℕ → Result Blocks DeckFault
deck bytes =
    if nat_lt greatest_length (length bytes) then Err TooLong
    else (if nat_lt (utf8_valid_len bytes) (length bytes) then Err (NotText (utf8_valid_len bytes)) else deck_of_text bytes)
