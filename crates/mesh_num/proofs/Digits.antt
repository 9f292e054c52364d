-- The value of a text of digits is what parsing gives.
use Rattle.std.proofs.Common.{◌≡◌, ◌<◌, ◌≤◌, ◌&&◌, ℕ, true, List, [], ◌∷◌, length, Result, Ok, refl, sym, ap, ◌∙◌, arith, nat_lt}
use Rattle.std.specs.Prelude.{nat_le}
use Rattle.std.specs.List.{list_all}
use Rattle.std.specs.Char.{is_ascii_digit}
use Rattle.std.specs.Str.{all_ascii_digits}
use Rattle.std.specs.Str.Parse.{digits_value, ParsesUnsigned}
use Rattle.std.specs.Result.{result_ok}
use Rattle.std.proofs.lemmas.Str.Parse.{IsNumeralModel, numerals_by_value, tells_all_ascii_digits, parse_gives, digits_value_short}
use Rattle.std.proofs.lemmas.Bool.{and_parts}
use Rattle.std.proofs.lemmas.Bool.Decides.{nat_tests}
use Rattle.mesh_num.specs.Decimal.{is_decimal, from_decimal}

-- each byte is a digit
all_digits : (bs : List ℕ) → list_all is_ascii_digit bs ≡ all_ascii_digits bs
all_digits [] = refl
all_digits (b ∷ bs) = rw (all_digits bs)

digits : IsNumeralModel (λ ds. all_ascii_digits ds ≡ true) (digits_value 10)
digits = numerals_by_value _ tells_all_ascii_digits

parsed : {E : Type 0} (most : ℕ) (bs : List ℕ) (r : Result ℕ E) → most ≤ 19 → ParsesUnsigned 64 10 bs r → is_decimal most bs ≡ true → r ≡ Ok (digits_value 10 bs)
parsed most bs r fits h e =
    let p = and_parts (nat_lt 0 (length bs) && nat_le (length bs) most) (list_all is_ascii_digit bs) e in
    let q = and_parts (nat_lt 0 (length bs)) (nat_le (length bs) most) p.0 in
    let some : 0 < length bs = grind (arith, nat_tests) in
    let short : length bs ≤ most = grind (arith, nat_tests) in
    let all : all_ascii_digits bs ≡ true = sym (all_digits bs) ∙ p.1 in
    parse_gives digits 64 bs r h all some (omega (arith, digits_value_short digits bs 19 all (omega arith)))

-- what parsing gives is the number of the text
pub number_from_parse : {E : Type 0} (most : ℕ) (bs : List ℕ) (r : Result ℕ E) → most ≤ 19 → ParsesUnsigned 64 10 bs r → is_decimal most bs ≡ true → result_ok r ≡ from_decimal most bs
number_from_parse most bs r fits h e = ap result_ok (parsed most bs r fits h e) ∙ sym (rw e)
