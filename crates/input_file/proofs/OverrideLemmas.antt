-- Splitting an override word.
use Rattle.std.proofs.Common.{◌≡◌, ◌≢◌, ℕ, zero, suc, ◌<◌, ◌≤◌, ◌+◌, ◌-◌, true, false, not, [], ◌∷◌, refl, ap, sym, ◌∙◌, length, take, drop, get_or, arith, nat_eq, lit<, length-drop}
use Rattle.std.specs.Prelude.{◌||◌, None}
use Rattle.std.specs.List.{list_any, before_last, after_last, suffix_len}
use Rattle.std.specs.Str.{NoCharPasses}
use Rattle.std.specs.Str.Pattern.{RFindsChar, HasCharAt, SplitsAroundMatch}
use Rattle.std.proofs.lemmas.List.{get_or-drop}
use Rattle.std.proofs.lemmas.List.Sums.{suffix_len_is}
use Rattle.std.proofs.lemmas.Bool.{eq-eqb}
use Rattle.std.proofs.lemmas.Str.{len_utf8_ascii}
use Rattle.std.proofs.lemmas.Str.Pattern.{NoCharPasses-char}
use Rattle.input_file.specs.Texts.{Text, trimmed}
use Rattle.input_file.specs.Overrides.{override_of, override_around, override_if_formed}
use Rattle.input_file.proofs.LineLemmas.{ne-test, list_any-none}

-- some byte of the text is c
list_any-some : (c : ℕ) (t : Text) (i : ℕ) → i < length t → get_or t i 0 ≡ c → list_any (λ b. nat_eq b c) t ≡ true
list_any-some c [] i h at = absurd (omega arith)
list_any-some c (b ∷ bs) zero h at = rw (eq-eqb b c at) refl
list_any-some c (b ∷ bs) (suc i) h at =
    let rest : list_any (λ b. nat_eq b c) bs ≡ true = list_any-some c bs i (omega arith) at in
    rw rest (elim (nat_eq b c) as (λ x. (x || true) ≡ true) [ true ↦ refl | false ↦ refl ])

-- what a split around the last c gives
pub record AroundLast (c : ℕ) (t front back : Text) : Type 0 where
  pub found : list_any (λ b. nat_eq b c) t ≡ true
  pub before : front ≡ before_last (λ b. nat_eq b c) t
  pub after : back ≡ after_last (λ b. nat_eq b c) t

around-last : (c : ℕ) (t front back : Text) (i : ℕ) → c < 128 → i + 1 ≤ length t → get_or t i 0 ≡ c → ((k : ℕ) → i + 1 ≤ k → k < length t → get_or t k 0 ≢ c) → front ≡ take i t → back ≡ drop (i + 1) t → AroundLast c t front back
around-last c t front back i ascii within at none is_front is_back =
    let tail : suffix_len (λ b. not (nat_eq b c)) t ≡ length t - (i + 1) =
    suffix_len_is (λ b. not (nat_eq b c)) t (i + 1) 0 within
    (λ k low high. ap not (ne-test (get_or t k 0) c (none k low high)))
    (λ _. ap not (eq-eqb (get_or t (i + 1 - 1) 0) c (ap (λ j. get_or t j 0) (omega arith) ∙ at))) in
    let cut_front : length t - suffix_len (λ b. not (nat_eq b c)) t - 1 ≡ i = omega (arith, tail) in
    let cut_back : length t - suffix_len (λ b. not (nat_eq b c)) t ≡ i + 1 = omega (arith, tail) in
    record {
      found = list_any-some c t i (omega arith) at;
      before = is_front ∙ ap (λ n. take n t) (sym cut_front);
      after = is_back ∙ ap (λ n. drop n t) (sym cut_back);
    }

pub rsplit-last : (c : ℕ) (t front back : Text) → c < 128 → SplitsAroundMatch (RFindsChar c) t front back → AroundLast c t front back
rsplit-last c t front back ascii h =
    let i = h.0 in
    let j = h.1 in
    let at : HasCharAt c t i j = h.2.1 in
    let step : j ≡ i + 1 = at.ends ∙ ap (λ n. i + n) (len_utf8_ascii c ascii) in
    let within : i + 1 ≤ length t = omega (arith, h.7, step) in
    around-last c t front back i ascii within (at.byte ascii)
    (λ k low high. λ e. NoCharPasses-char c (drop j t) (k - j) h.2.0 ascii (omega (arith, step, length-drop j t)) (get_or-drop j t (k - j) 0 ∙ ap (λ n. get_or t n 0) (omega (arith, step)) ∙ e))
    h.3 (h.4 ∙ ap (λ n. drop n t) step)

-- a path without `/` is no block and key
pub override_around-none : (path value : Text) → NoCharPasses (λ d. nat_eq d 47) path → None ≡ override_around path value
override_around-none path value none = rw (list_any-none 47 path (λ i h. NoCharPasses-char 47 path i none (lit< tt) h)) refl

-- a word without `=` is no override
pub override_of-none : (word : Text) → NoCharPasses (λ d. nat_eq d 61) word → None ≡ override_of word
override_of-none word none = rw (list_any-none 61 word (λ i h. NoCharPasses-char 61 word i none (lit< tt) h)) refl

-- a path that is split around its last `/`
pub override_around-some : (path value front back : Text) → AroundLast 47 path front back → override_if_formed (trimmed front) (trimmed back) (trimmed value) ≡ override_around path value
override_around-some path value front back h = rw (h.found, h.before, h.after) refl
