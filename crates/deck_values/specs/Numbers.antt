-- The forms of numbers and names.
use Rattle.std.specs.Prelude.{◌==◌, ◌&&◌, ◌||◌, if◌then◌else◌, nat_lt, ℕ, ℤ, pos, neg_ℤ, Bool, [], ◌∷◌, length, Option, None, option_map}
use Rattle.std.specs.List.{list_all}
use Rattle.std.specs.Char.{is_ascii_alphanumeric}
use Rattle.std.specs.Str.{byte}
use Rattle.mesh_num.specs.Decimal.{from_decimal}
use Rattle.input_file.specs.Texts.{Text}

-- the number that a text writes in 1 to 19 decimal digits
abbrev pub number_of : Text → Option ℕ
number_of text = from_decimal 19 text

-- the number that a text writes, with one `-` before it where it is negative
abbrev pub signed_of : Text → Option ℤ
signed_of [] = None
signed_of (b ∷ bs) =
    if b == byte "-" then option_map (λ n. neg_ℤ (pos n)) (number_of bs) else option_map pos (number_of (b ∷ bs))

-- a byte of a name: a letter, a digit, or one of `_`, `.` and `-`
abbrev pub is_name_byte : ℕ → Bool
is_name_byte b = is_ascii_alphanumeric b || b == byte "_" || b == byte "." || b == byte "-"

-- 1 to 32 bytes of a name
abbrev pub is_name : Text → Bool
is_name text = nat_lt 0 (length text) && nat_lt (length text) 33 && list_all is_name_byte text
