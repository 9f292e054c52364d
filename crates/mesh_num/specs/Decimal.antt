-- Numbers written in decimal digits.
use Rattle.std.specs.Prelude.{◌&&◌, if◌then◌else◌, nat_lt, nat_le, ℕ, Bool, List, length, Option, Some, None}
use Rattle.std.specs.List.{list_all}
use Rattle.std.specs.Char.{is_ascii_digit}
use Rattle.std.specs.Str.Parse.{digits_value}

-- a text of 1 to `most` bytes, each a decimal digit
abbrev pub is_decimal : ℕ → List ℕ → Bool
is_decimal most text = nat_lt 0 (length text) && nat_le (length text) most && list_all is_ascii_digit text

-- the number that a text writes in 1 to `most` decimal digits; with 3 of them "007" is 7, and "0007" and "+7" are none
abbrev pub from_decimal : ℕ → List ℕ → Option ℕ
from_decimal most text = if is_decimal most text then Some (digits_value 10 text) else None
