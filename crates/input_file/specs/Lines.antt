-- The lines of a deck's text: how a line is cleaned, and which form it has.
use Rattle.std.specs.Prelude.{◌==◌, ◌&&◌, [], ◌∷◌, cond, reverse, IsTrue}
use Rattle.std.specs.List.{list_any, before_first, after_first}
use Rattle.std.specs.Str.{byte}
use Rattle.input_file.specs.Texts.{Text, is_hash, is_equals, trimmed, is_block_name, is_key, is_value}

-- the text without a CR at its start
abbrev pub without_first_return : Text → Text
without_first_return [] = []
without_first_return (b ∷ bs) = cond (b == 13) bs (b ∷ bs)

-- the text without one CR at its end
abbrev pub without_return : Text → Text
without_return t = reverse (without_first_return (reverse t))

-- a line without the CR at its end, without what follows the first `#`, and without blanks at both ends, in this order
abbrev pub cleaned : Text → Text
cleaned line = trimmed (before_first is_hash (without_return line))

-- what a line says: nothing, that a block begins, that a key has a value, or nothing that is well formed
pub data Form : Type 0 where
  blank : Form
  header : Text → Form
  setting : Text → Text → Form
  malformed : Form

-- a header of this name, if it is well formed
abbrev pub header_if_named : Text → Form
header_if_named name = cond (is_block_name name) (header name) malformed

-- the form of a line that begins with `<`, by what follows, read from its end: `>`, then the name
abbrev pub header_form_from_end : Text → Form
header_form_from_end [] = malformed
header_form_from_end (b ∷ bs) = cond (b == byte ">") (header_if_named (trimmed (reverse bs))) malformed

-- the form of a line that begins with `<`, by what follows: the name and then `>`
abbrev pub header_form : Text → Form
header_form t = header_form_from_end (reverse t)

-- the setting of a key to a value, if both are well formed
abbrev pub setting_if_formed : Text → Text → Form
setting_if_formed key value = cond (is_key key && is_value value) (setting key value) malformed

-- the form of any other line: a key and a value around the first `=`
abbrev pub setting_form : Text → Form
setting_form t = cond (list_any is_equals t) (setting_if_formed (trimmed (before_first is_equals t)) (trimmed (after_first is_equals t))) malformed

-- the form of a cleaned line
abbrev pub form_of_cleaned : Text → Form
form_of_cleaned [] = blank
form_of_cleaned (b ∷ bs) = cond (b == byte "<") (header_form bs) (setting_form (b ∷ bs))

-- the form of a line
abbrev pub form_of : Text → Form
form_of line = form_of_cleaned (cleaned line)

-- the texts of a form are well formed
abbrev pub IsFormed : Form → Type 0
IsFormed blank = Unit {0}
IsFormed (header name) = IsTrue (is_block_name name)
IsFormed (setting key value) = IsTrue (is_key key) × IsTrue (is_value value)
IsFormed malformed = Unit {0}
