-- Texts of digits, letters, commas and the like are well formed.
use Rattle.std.proofs.Common.{◌≡◌, ◌≤◌, ◌<◌, ◌+◌, ◌^◌, ◌++◌, ◌∷◌, [], ◌&&◌, ◌||◌, ◌/◌, ◌%◌, ℕ, zero, suc, Bool, true, false, cond, not, List, length, map, refl, sym, ap, ◌∙◌, subst, nat_le, append_assoc, arith}
use Rattle.std.specs.Prelude.{reverse, codes, Result, Ok, Err, String, IfOk}
use Rattle.std.specs.String.{string_bytes}
use Rattle.std.specs.List.{list_any, list_all, range_with_len, join_with_byte}
use Rattle.std.specs.Fmt.{decimal}
use Rattle.std.specs.Str.{bytes_eq}
use Rattle.std.proofs.lemmas.Bool.Decides.{nat_tests}
use Rattle.std.proofs.lemmas.Slice.Eq.{bytes_eq-Decides}
use Rattle.std.proofs.lemmas.List.{reverse-reverse, reverse-append}
use Rattle.std.proofs.lemmas.Fmt.{decimal_by_steps}
use Rattle.std.proofs.lemmas.List.FromFn.{map-range_with_len_more}
use Rattle.input_file.specs.Texts.{Text, is_blank, is_barred, is_barred_in_block, trimmed, without_leading, without_trailing, is_trimmed, is_value, is_block_name, is_empty}
use Rattle.deck_generator.specs.Values.{field_label, negative_text, numbers_below}
use Rattle.deck_generator.specs.Generated.{box_name}

-- a byte from `,` to `9`, or one from `A` to `z`
abbrev pub is_safe : ℕ → Bool
is_safe b = (nat_le 44 b && nat_le b 57) || (nat_le 65 b && nat_le b 122)

abbrev pub are_safe : Text → Bool
are_safe t = list_all is_safe t

safe_blank : (b : ℕ) → is_safe b ≡ true → is_blank b ≡ false
safe_blank b h = grind (arith, nat_tests)

safe_barred : (b : ℕ) → is_safe b ≡ true → is_barred b ≡ false
safe_barred b h = grind (arith, nat_tests)

safe_in_block : (b : ℕ) → is_safe b ≡ true → is_barred_in_block b ≡ false
safe_in_block b h = grind (arith, nat_tests)

pub and_true : (a b : Bool) → (a && b) ≡ true → (a ≡ true) × (b ≡ true)
and_true true b e = (refl, e)
and_true false b e = cc

pub and_both : (a b : Bool) → a ≡ true → b ≡ true → (a && b) ≡ true
and_both true b e f = f
and_both false b e f = e

pub safe-append : (s t : Text) → are_safe s ≡ true → are_safe t ≡ true → are_safe (s ++ t) ≡ true
safe-append [] t hs ht = ht
safe-append (b ∷ s) t hs ht = let h = and_true (is_safe b) (are_safe s) hs in and_both (is_safe b) (are_safe (s ++ t)) h.0 (safe-append s t h.1 ht)

safe-reverse : (t : Text) → are_safe t ≡ true → are_safe (reverse t) ≡ true
safe-reverse [] h = refl
safe-reverse (b ∷ t) h =
    let p = and_true (is_safe b) (are_safe t) h in
    subst (λ (s : Text). are_safe s ≡ true) (sym (reverse-append (b ∷ []) t)) (safe-append (reverse t) (b ∷ []) (safe-reverse t p.1) (and_both (is_safe b) true p.0 refl))

leading-none : (t : Text) → are_safe t ≡ true → without_leading t ≡ t
leading-none [] h = refl
leading-none (b ∷ t) h = ap (λ (c : Bool). cond c (without_leading t) (b ∷ t)) (safe_blank b (and_true (is_safe b) (are_safe t) h).0)

trimmed-safe : (t : Text) → are_safe t ≡ true → trimmed t ≡ t
trimmed-safe t h =
    ap without_trailing (leading-none t h) ∙ ap reverse (leading-none (reverse t) (safe-reverse t h)) ∙ reverse-reverse t

is_trimmed-safe : (t : Text) → are_safe t ≡ true → is_trimmed t ≡ true
is_trimmed-safe t h = (bytes_eq-Decides (trimmed t) t).1 (trimmed-safe t h)

none-such : (p : ℕ → Bool) → ((b : ℕ) → is_safe b ≡ true → p b ≡ false) → (t : Text) → are_safe t ≡ true → list_any p t ≡ false
none-such p not_safe [] h = refl
none-such p not_safe (b ∷ t) h = let s = and_true (is_safe b) (are_safe t) h in rw (not_safe b s.0) (none-such p not_safe t s.1)

-- a safe text is a value
pub is_value-safe : (t : Text) → are_safe t ≡ true → is_value t ≡ true
is_value-safe t h = and_both (is_trimmed t) _ (is_trimmed-safe t h) (ap not (none-such is_barred safe_barred t h))

-- a safe text with a first byte is the name of a block
pub is_block_name-safe : (b : ℕ) (t : Text) → are_safe (b ∷ t) ≡ true → is_block_name (b ∷ t) ≡ true
is_block_name-safe b t h = and_both (is_trimmed (b ∷ t)) _ (is_trimmed-safe (b ∷ t) h) (ap not (none-such is_barred_in_block safe_in_block (b ∷ t) h))

digit_safe : (n : ℕ) → n < 10 → is_safe (48 + n) ≡ true
digit_safe n h = grind (arith, nat_tests)

one_digit : (n : ℕ) → n < 10 → are_safe ((48 + n) ∷ []) ≡ true
one_digit n h = and_both (is_safe (48 + n)) true (digit_safe n h) refl

more_digits : (n : ℕ) (ds : Text) → 10 ≤ n → are_safe ds ≡ true → are_safe (ds ++ ((48 + n % 10) ∷ [])) ≡ true
more_digits n ds le h = let last : n % 10 < 10 = omega arith in safe-append ds ((48 + n % 10) ∷ []) h (one_digit (n % 10) last)

pub decimal-safe : (n : ℕ) → n < 2 ^ 64 → are_safe (decimal n) ≡ true
decimal-safe n h = decimal_by_steps (λ m ds. are_safe ds ≡ true) one_digit more_digits n h

pub negative-safe : (n : ℕ) → n < 2 ^ 64 → are_safe (negative_text n) ≡ true
negative-safe n h = safe-append (codes "-") (decimal n) refl (decimal-safe n h)

pub label-safe : (n : ℕ) → n < 2 ^ 64 → are_safe (field_label n) ≡ true
label-safe n h = safe-append (codes "s_") (decimal n) refl (decimal-safe n h)

pub box_name-safe : (n : ℕ) → n < 2 ^ 64 → are_safe (box_name n) ≡ true
box_name-safe n h = safe-append (codes "box/") (decimal n) refl (decimal-safe n h)

pub is_box_name : (n : ℕ) → n < 2 ^ 64 → is_block_name (box_name n) ≡ true
is_box_name n h = is_block_name-safe 98 (codes "ox/" ++ decimal n) (box_name-safe n h)

-- pieces with one more behind them
join-more : (c : ℕ) (xs : List Text) (x y : Text) → join_with_byte c (x ∷ (xs ++ y ∷ [])) ≡ join_with_byte c (x ∷ xs) ++ c ∷ y
join-more c [] x y = refl
join-more c (z ∷ xs) x y = ap (λ (t : Text). x ++ (c ∷ t)) (join-more c xs z y) ∙ sym (append_assoc x (c ∷ join_with_byte c (z ∷ xs)) (c ∷ y))

-- the numbers below a count with one more
pub numbers-more : (n : ℕ) → 1 ≤ n → numbers_below (n + 1) ≡ numbers_below n ++ 44 ∷ decimal n
numbers-more zero some = absurd (omega (arith, some))
numbers-more (suc m) some =
    ap (join_with_byte 44) (map-range_with_len_more decimal 0 (suc m) (suc m) (omega arith))
    ∙ join-more 44 (map decimal (range_with_len (0 + 1) m)) (decimal 0) (decimal (suc m))

-- the first of the numbers
pub numbers-first : numbers_below (0 + 1) ≡ decimal 0
numbers-first = let e : 0 + 1 ≡ suc zero = omega arith in ap numbers_below e

numbers_from-safe : (n a : ℕ) → a + n < 2 ^ 64 → are_safe (join_with_byte 44 (map decimal (range_with_len a n))) ≡ true
numbers_from-safe zero a h = refl
numbers_from-safe (suc zero) a h = decimal-safe a (omega (arith, h))
numbers_from-safe (suc (suc n)) a h =
    safe-append (decimal a) (44 ∷ join_with_byte 44 (map decimal (range_with_len (a + 1) (suc n)))) (decimal-safe a (omega (arith, h))) (numbers_from-safe (suc n) (a + 1) (omega (arith, h)))

pub numbers-safe : (n : ℕ) → n < 2 ^ 64 → are_safe (numbers_below n) ≡ true
numbers-safe n h = numbers_from-safe n 0 (omega (arith, h))

-- a text that was made, where what it was made as is safe
pub formed_ok : {Z E : Type 0} (r : Result (String Z) E) (t : Text) → IfOk r (λ text. string_bytes text ≡ t) → are_safe t ≡ true → IfOk r (λ text. is_value (string_bytes text) ≡ true)
formed_ok (Ok text) t e safe = subst (λ (s : Text). is_value s ≡ true) (sym e) (is_value-safe t safe)
formed_ok (Err x) t e safe = tt
