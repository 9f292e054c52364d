-- Numbers among the words.
use Rattle.std.specs.Prelude.{◌&&◌, nat_lt, nat_le, ℕ, Bool, length}
use Rattle.std.specs.Str.Parse.{digits_value}
use Rattle.mesh_num.specs.Decimal.{is_decimal}
use Rattle.clap.specs.Words.{Text}

-- 1 to 10 decimal digits of a value between these
abbrev pub is_number_within : ℕ → ℕ → Text → Bool
is_number_within least greatest text =
    is_decimal 10 text && nat_le least (digits_value 10 text) && nat_le (digits_value 10 text) greatest

-- a number of workers: 1 to 64
abbrev pub is_workers : Text → Bool
is_workers text = is_number_within 1 64 text

-- a seed: below 2 ^ 31
abbrev pub is_seed : Text → Bool
is_seed text = is_number_within 0 2147483647 text

-- a prefix of file names: 1 to 200 bytes
abbrev pub is_prefix : Text → Bool
is_prefix text = nat_lt 0 (length text) && nat_lt (length text) 201
