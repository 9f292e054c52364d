-- Numbers that are written in decimal read back.
use Rattle.std.proofs.Common.{◌≡◌, ℕ, zero, suc, ◌+◌, ◌<◌, ◌≤◌, ◌^◌, true, false, List, [], ◌∷◌, ◌++◌, length, map, refl, ap, ◌∙◌, arith, nat_eq, nat_lt, leb-true, ne_eqb, pos, neg_ℤ}
use Rattle.std.specs.Prelude.{◌==◌, Some, nat_le, codes}
use Rattle.std.specs.List.{All, list_all, list_any, range_with_len, join_with_byte}
use Rattle.std.specs.Char.{is_ascii_digit}
use Rattle.std.specs.Fmt.{decimal}
use Rattle.std.specs.Ordering.{nat_cmp}
use Rattle.std.specs.BTreeSet.{insert_key}
use Rattle.std.specs.Str.{all_ascii_digits, byte}
use Rattle.std.specs.Str.Parse.{digits_value}
use Rattle.std.proofs.lemmas.Bool.{and_parts}
use Rattle.std.proofs.lemmas.Bool.Decides.{nat_tests}
use Rattle.std.proofs.lemmas.Fmt.{decimal_nonempty, decimal_is_IsNumeral, length-decimal-le, digits_decimal}
use Rattle.std.proofs.lemmas.List.Elements.{All-nil, All-cons}
use Rattle.std.proofs.lemmas.List.Splits.{slice_split_none, slice_split_at}
use Rattle.std.proofs.lemmas.Str.Parse.{numerals_by_value, tells_all_ascii_digits}
use Rattle.input_file.specs.Texts.{Text}
use Rattle.deck_values.specs.Numbers.{number_of, signed_of}
use Rattle.deck_values.specs.FlagsAndIds.{items_of, each_some, id_of, rising_after, ids_of}
use Rattle.deck_generator.specs.Values.{negative_text, numbers_below}

all-digits : (ds : Text) → all_ascii_digits ds ≡ true → list_all is_ascii_digit ds ≡ true
all-digits [] h = refl
all-digits (c ∷ cs) h = let p = and_parts (is_ascii_digit c) (all_ascii_digits cs) h in rw (p.0, all-digits cs p.1) refl

decimal-digits : (n : ℕ) → n < 2 ^ 64 → list_all is_ascii_digit (decimal n) ≡ true
decimal-digits n h = all-digits (decimal n) (digits_decimal (numerals_by_value (λ ds. all_ascii_digits ds ≡ true) tells_all_ascii_digits) n h)

number-read : (ds : Text) (n : ℕ) → 0 < length ds → length ds < 20 → list_all is_ascii_digit ds ≡ true → digits_value 10 ds ≡ n → number_of ds ≡ Some n
number-read ds n some short all value =
    let least : nat_lt 0 (length ds) ≡ true = grind (arith, nat_tests) in
    let most : nat_le (length ds) 19 ≡ true = grind (arith, nat_tests) in
    rw (least, most, all, value) refl

-- a number reads back
pub number_of-decimal : (n : ℕ) → n < 2 ^ 32 → number_of (decimal n) ≡ Some n
number_of-decimal n h =
    let wide : n < 2 ^ 64 = omega arith in
    let size : length (decimal n) ≤ 10 = length-decimal-le 10 n (omega arith) (omega arith) wide in
    number-read (decimal n) n (decimal_nonempty n wide) (omega arith) (decimal-digits n wide) (decimal_is_IsNumeral n wide).1

not-minus : (b : ℕ) → is_ascii_digit b ≡ true → (b == byte "-") ≡ false
not-minus b h =
    let p = and_parts (nat_le 48 b) (nat_le b 57) h in
    let low : 48 ≤ b = leb-true 48 b p.0 in
    ne_eqb b 45 (omega arith)

signed-read : (ds : Text) (n : ℕ) → 0 < length ds → list_all is_ascii_digit ds ≡ true → number_of ds ≡ Some n → signed_of ds ≡ Some (pos n)
signed-read [] n some all h = absurd (omega arith)
signed-read (b ∷ bs) n some all h =
    let p = and_parts (is_ascii_digit b) (list_all is_ascii_digit bs) all in
    rw (not-minus b p.0, h) refl

-- a number reads back where it may have a sign
pub signed_of-decimal : (n : ℕ) → n < 2 ^ 32 → signed_of (decimal n) ≡ Some (pos n)
signed_of-decimal n h =
    let wide : n < 2 ^ 64 = omega arith in
    signed-read (decimal n) n (decimal_nonempty n wide) (decimal-digits n wide) (number_of-decimal n h)

minus-read : (ds : Text) (n : ℕ) → number_of ds ≡ Some n → signed_of (codes "-" ++ ds) ≡ Some (neg_ℤ (pos n))
minus-read ds n h = rw h refl

pub signed_of-negative : (n : ℕ) → n < 2 ^ 32 → signed_of (negative_text n) ≡ Some (neg_ℤ (pos n))
signed_of-negative n h = minus-read (decimal n) n (number_of-decimal n h)

-- ---- ids

-- there is no comma in a number
no-comma : (b : ℕ) → is_ascii_digit b ≡ true → nat_eq b 44 ≡ false
no-comma b h =
    let p = and_parts (nat_le 48 b) (nat_le b 57) h in
    let low : 48 ≤ b = leb-true 48 b p.0 in
    ne_eqb b 44 (omega arith)

no-commas : (ds : Text) → list_all is_ascii_digit ds ≡ true → All (λ b. nat_eq b 44 ≡ false) ds
no-commas [] h = All-nil (λ b. nat_eq b 44 ≡ false)
no-commas (b ∷ bs) h = let p = and_parts (is_ascii_digit b) (list_all is_ascii_digit bs) h in All-cons (λ b. nat_eq b 44 ≡ false) b bs (no-comma b p.0) (no-commas bs p.1)

decimal-no-commas : (n : ℕ) → n < 2 ^ 32 → All (λ b. nat_eq b 44 ≡ false) (decimal n)
decimal-no-commas n h = no-commas (decimal n) (decimal-digits n (omega arith))

items-joined : (n a : ℕ) → a + n < 2 ^ 32 → items_of (join_with_byte 44 (map decimal (range_with_len a (suc n)))) ≡ map decimal (range_with_len a (suc n))
items-joined zero a h = slice_split_none (λ b. nat_eq b 44) (decimal a) (decimal-no-commas a (omega arith))
items-joined (suc n) a h =
    slice_split_at (λ b. nat_eq b 44) (decimal a) 44 (join_with_byte 44 (map decimal (range_with_len (a + 1) (suc n)))) (decimal-no-commas a (omega arith)) refl
    ∙ ap (λ (ts : List Text). decimal a ∷ ts) (items-joined n (a + 1) (omega arith))

id-read : (ds : Text) (n : ℕ) → n ≤ 65535 → number_of ds ≡ Some n → id_of ds ≡ Some n
id-read ds n h read = let small : nat_le n 65535 ≡ true = grind (arith, nat_tests) in rw (read, small) refl

ids-each : (n a : ℕ) → a + n ≤ 65536 → each_some id_of (map decimal (range_with_len a n)) ≡ Some (range_with_len a n)
ids-each zero a h = refl
ids-each (suc n) a h = rw (id-read (decimal a) a (omega arith) (number_of-decimal a (omega arith)), ids-each n (a + 1) (omega arith)) refl

-- a number that is not below is new
is-new : (n a k : ℕ) → a + n ≤ k → list_any (λ m. k == m) (range_with_len a n) ≡ false
is-new zero a k h = refl
is-new (suc n) a k h =
    let other : (k == a) ≡ false = ne_eqb k a (omega arith) in
    rw (other, is-new n (a + 1) k (omega arith)) refl

goes-last : (n a k : ℕ) → a + n ≤ k → insert_key nat_cmp (range_with_len a n) k ≡ range_with_len a n ++ k ∷ []
goes-last zero a k h = refl
goes-last (suc n) a k h =
    let no_less : nat_lt k a ≡ false = grind (arith, nat_tests) in
    let other : nat_eq k a ≡ false = ne_eqb k a (omega arith) in
    rw (no_less, other, goes-last n (a + 1) k (omega arith)) refl

range-more : (a n k : ℕ) → a + n ≡ k → range_with_len a n ++ k ∷ [] ≡ range_with_len a (n + 1)
range-more a zero k h = let here : k ≡ a = omega arith in ap (λ (x : ℕ). x ∷ []) here
range-more a (suc n) k h = let one : suc n + 1 ≡ suc (n + 1) = omega arith in rw one (ap (λ (xs : List ℕ). a ∷ xs) (range-more (a + 1) n k (omega arith)))

ids-rise : (n k : ℕ) → rising_after (range_with_len 0 k) (range_with_len k n) ≡ Some (range_with_len 0 (k + n))
ids-rise zero k = let same : k + 0 ≡ k = omega arith in rw same refl
ids-rise (suc n) k =
    let count : k + 1 + n ≡ k + suc n = omega arith in
    let added : insert_key nat_cmp (range_with_len 0 k) k ≡ range_with_len 0 (k + 1) = goes-last k 0 k (omega arith) ∙ range-more 0 k k (omega arith) in
    rw (is-new k 0 k (omega arith), added) (ids-rise n (k + 1) ∙ ap (λ (m : ℕ). Some (range_with_len 0 m)) count)

ids-read : (items : List Text) (ns : List ℕ) (text : Text) → items_of text ≡ items → each_some id_of items ≡ Some ns → rising_after [] ns ≡ Some ns → ids_of text ≡ Some ns
unfolding ids_of
ids-read items ns text split each rise = rw (split, each) rise

-- the numbers below a count read back
pub ids_of-numbers : (n : ℕ) → n < 65536 → ids_of (numbers_below (suc n)) ≡ Some (range_with_len 0 (suc n))
ids_of-numbers n h =
    let rise : rising_after [] (range_with_len 0 (suc n)) ≡ Some (range_with_len 0 (suc n)) = let count : 0 + suc n ≡ suc n = omega arith in ids-rise (suc n) 0 ∙ ap (λ (m : ℕ). Some (range_with_len 0 m)) count in
    ids-read (map decimal (range_with_len 0 (suc n))) (range_with_len 0 (suc n)) (numbers_below (suc n)) (items-joined n 0 (omega arith)) (ids-each (suc n) 0 (omega arith)) rise
