-- The texts that a deck is made of.
use Rattle.std.specs.Prelude.{ℕ, ◌==◌, Bool, false, true, not, ◌&&◌, ◌||◌, List, [], ◌∷◌, cond, reverse}
use Rattle.std.specs.List.{list_any}
use Rattle.std.specs.Str.{bytes_eq, byte}

-- the bytes of a text
abbrev pub Text : Type 0
Text = List ℕ

-- a space or a tab
abbrev pub is_blank : ℕ → Bool
is_blank b = b == 32 || b == 9

-- the bytes that end a line: CR and LF
abbrev pub is_line_end : ℕ → Bool
is_line_end b = b == 13 || b == 10

-- `=`, which stands between a key and its value
abbrev pub is_equals : ℕ → Bool
is_equals b = b == byte "="

-- `/`, which stands between a block and a key in an override
abbrev pub is_slash : ℕ → Bool
is_slash b = b == byte "/"

-- `#`, which begins a comment
abbrev pub is_hash : ℕ → Bool
is_hash b = b == byte "#"

-- the text without the bytes at its start that pass a test
abbrev pub without_leading_by : (ℕ → Bool) → Text → Text
without_leading_by test [] = []
without_leading_by test (b ∷ bs) = cond (test b) (without_leading_by test bs) (b ∷ bs)

-- the text without the bytes at its end that pass a test
abbrev pub without_trailing_by : (ℕ → Bool) → Text → Text
without_trailing_by test t = reverse (without_leading_by test (reverse t))

-- the text without the blanks at its start
abbrev pub without_leading : Text → Text
without_leading t = without_leading_by is_blank t

-- the text without the blanks at its end
abbrev pub without_trailing : Text → Text
without_trailing t = without_trailing_by is_blank t

-- the text without the blanks at both ends
abbrev pub trimmed : Text → Text
trimmed t = without_trailing (without_leading t)

-- there is no blank at either end
abbrev pub is_trimmed : Text → Bool
is_trimmed t = bytes_eq (trimmed t) t

abbrev pub is_empty : Text → Bool
is_empty [] = true
is_empty (b ∷ bs) = false

-- the text begins with `<`, as a header does
abbrev pub begins_header : Text → Bool
begins_header [] = false
begins_header (b ∷ bs) = b == byte "<"

-- a byte that is in no value: a comment's first, or a line's end
abbrev pub is_barred : ℕ → Bool
is_barred b = is_hash b || is_line_end b

-- a byte that is in no block's name
abbrev pub is_barred_in_block : ℕ → Bool
is_barred_in_block b = b == byte "<" || b == byte ">" || is_equals b || is_barred b

-- a byte that is in no key
abbrev pub is_barred_in_key : ℕ → Bool
is_barred_in_key b = is_equals b || is_slash b || is_barred b

-- a block's name: not empty, no blank at its ends, and none of `<`, `>`, `=`, `#`, CR, LF
abbrev pub is_block_name : Text → Bool
is_block_name t = not (is_empty t) && is_trimmed t && not (list_any is_barred_in_block t)

-- a key: not empty, does not begin with `<`, no blank at its ends, and none of `=`, `/`, `#`, CR, LF
abbrev pub is_key : Text → Bool
is_key t = not (is_empty t) && not (begins_header t) && is_trimmed t && not (list_any is_barred_in_key t)

-- a value, which may be empty: no blank at its ends, and none of `#`, CR, LF
abbrev pub is_value : Text → Bool
is_value t = is_trimmed t && not (list_any is_barred t)
