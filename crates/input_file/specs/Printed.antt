-- The text of a deck.
use Rattle.std.specs.Prelude.{List, [], ◌∷◌, ◌++◌}
use Rattle.std.specs.Str.{byte}
use Rattle.input_file.specs.Texts.{Text}
use Rattle.input_file.specs.Blocks.{Entries, Blocks}

-- the header of a block: its name between `<` and `>`
abbrev pub header_line : Text → Text
header_line name = byte "<" ∷ (name ++ (byte ">" ∷ []))

-- a value after `=`: a space and the value, or nothing where it is empty
abbrev pub value_part : Text → Text
value_part [] = []
value_part (b ∷ bs) = byte " " ∷ b ∷ bs

-- the line of a key and its value
abbrev pub setting_line : Text → Text → Text
setting_line key value = key ++ (byte " " ∷ byte "=" ∷ value_part value)

-- the lines of a block's keys
abbrev pub setting_lines : Entries → List Text
setting_lines [] = []
setting_lines (e ∷ es) = setting_line e.0 e.1 ∷ setting_lines es

-- the lines of a deck: for each block its header and then its keys
abbrev pub deck_lines : Blocks → List Text
deck_lines [] = []
deck_lines (e ∷ es) = header_line e.0 ∷ (setting_lines e.1 ++ deck_lines es)

-- lines, each with LF at its end
abbrev pub text_of_lines : List Text → Text
text_of_lines [] = []
text_of_lines (l ∷ ls) = l ++ (10 ∷ text_of_lines ls)

-- the text of a deck
abbrev pub printed : Blocks → Text
printed d = text_of_lines (deck_lines d)
