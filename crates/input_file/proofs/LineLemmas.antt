-- The forms of lines, as the calls that strip and split them tell them.
use Rattle.std.proofs.Common.{◌≡◌, ◌≢◌, ℕ, suc, ◌<◌, false, nat_eq, [], ◌∷◌, ◌++◌, refl, ap, sym, ◌∙◌, arith, length, get_or}
use Rattle.std.specs.Prelude.{reverse}
use Rattle.std.specs.List.{list_any}
use Rattle.std.proofs.lemmas.List.{reverse-reverse, reverse-append}
use Rattle.std.proofs.lemmas.Bool.{eqb-true, false_from_ne_true}
use Rattle.input_file.specs.Texts.{Text}
use Rattle.input_file.specs.Lines.{malformed, without_first_return, without_return, header_form_from_end, header_form, setting_form, form_of_cleaned}

-- a byte that differs from c does not pass the test for c
pub ne-test : (b c : ℕ) → b ≢ c → nat_eq b c ≡ false
ne-test b c ne = false_from_ne_true (nat_eq b c) (λ e. ne (eqb-true b c e))

-- a text that ends with c is, read from its end, c and the rest
reverse-is-cons : (t rest : Text) (c : ℕ) → reverse t ≡ c ∷ rest → t ≡ reverse rest ++ (c ∷ [])
reverse-is-cons t rest c e = sym (reverse-reverse t) ∙ ap reverse e ∙ reverse-append (c ∷ []) rest

without_first_return-none : (t : Text) → ((rest : Text) → t ≢ 13 ∷ rest) → without_first_return t ≡ t
without_first_return-none [] none = refl
without_first_return-none (b ∷ bs) none = rw (ne-test b 13 (λ e. none bs (ap (λ x. x ∷ bs) e))) refl

pub without_return-none : (t : Text) → ((front : Text) → t ≢ front ++ (13 ∷ [])) → without_return t ≡ t
without_return-none t none = ap reverse (without_first_return-none (reverse t) (λ rest e. none (reverse rest) (reverse-is-cons t rest 13 e))) ∙ reverse-reverse t

header_form_from_end-none : (t : Text) → ((rest : Text) → t ≢ 62 ∷ rest) → header_form_from_end t ≡ malformed
header_form_from_end-none [] none = refl
header_form_from_end-none (b ∷ bs) none = rw (ne-test b 62 (λ e. none bs (ap (λ x. x ∷ bs) e))) refl

-- a line that begins with `<` and does not end with `>` is malformed
pub header_form-none : (t : Text) → ((front : Text) → t ≢ front ++ (62 ∷ [])) → header_form t ≡ malformed
header_form-none t none = header_form_from_end-none (reverse t) (λ rest e. none (reverse rest) (reverse-is-cons t rest 62 e))

-- no byte of the text is c
pub list_any-none : (c : ℕ) (t : Text) → ((i : ℕ) → i < length t → get_or t i 0 ≢ c) → list_any (λ b. nat_eq b c) t ≡ false
list_any-none c [] none = refl
list_any-none c (b ∷ bs) none =
    rw (ne-test b c (none 0 (omega arith)), list_any-none c bs (λ i h. none (suc i) (omega arith))) refl

-- a line without `=` is malformed
pub setting_form-none : (t : Text) → ((i : ℕ) → i < length t → get_or t i 0 ≢ 61) → setting_form t ≡ malformed
setting_form-none t none = rw (list_any-none 61 t none) refl

-- a line that is not empty and does not begin with `<` is a setting or malformed
pub form_of_cleaned-other : (t : Text) → nat_eq (length t) 0 ≡ false → ((rest : Text) → t ≢ 60 ∷ rest) → form_of_cleaned t ≡ setting_form t
form_of_cleaned-other [] empty none = absurd (cc)
form_of_cleaned-other (b ∷ bs) empty none = rw (ne-test b 60 (λ e. none bs (ap (λ x. x ∷ bs) e))) refl
