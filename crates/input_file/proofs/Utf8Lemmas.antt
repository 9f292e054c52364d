-- How far bytes are UTF-8, where a text stands before them, or a line's end behind them.
use Rattle.std.proofs.Common.{◌≡◌, ◌⊎◌, ℕ, zero, suc, ◌+◌, ◌-◌, ◌<◌, ◌≤◌, Bool, true, false, List, ◌∷◌, ◌++◌, length, take, get_or, refl, sym, ap, subst, ◌∙◌, arith, inl, inr, true≢false, length-append, take_all, take_at, drop_at, get_or-append-add}
use Rattle.std.specs.Prelude.{if◌then◌else◌, nat_lt}
use Rattle.std.specs.Str.{IsUtf8, IsValidUpTo, is_utf8}
use Rattle.std.specs.Str.Lossy.{valid_len_up_to, utf8_valid_len}
use Rattle.std.proofs.lemmas.Bool.{cases_lt}
use Rattle.std.proofs.lemmas.Bool.Decides.{nat_tests}
use Rattle.std.proofs.lemmas.List.{take-append-le}
use Rattle.std.proofs.Math.Seq.{take-append-add}
use Rattle.std.proofs.lemmas.Str.{IsUtf8-from_is_utf8, is_utf8-from_IsUtf8, IsUtf8-append, IsUtf8-drop, IsUtf8-take, IsUtf8-nil, IsCharBoundary-from_take, IsCharBoundary-before_ascii, utf8_valid_len-IsUtf8, utf8_valid_len-IsValidUpTo}

-- no front that is longer than this one, and at most so long, is UTF-8
NoLonger : List ℕ → ℕ → ℕ → Type 0
NoLonger bs n m = (k : ℕ) → n < k → k ≤ m → ¬ (IsUtf8 (take k bs))

searched : (bs : List ℕ) (m : ℕ) → IsUtf8 (take (valid_len_up_to bs m) bs) × NoLonger bs (valid_len_up_to bs m) m
unfolding NoLonger
searched bs zero = (IsUtf8-nil, λ k above within. absurd (omega arith))
searched bs (suc m) = by (searched bs m) (is_utf8 (take (suc m) bs)) refl
  where
    no_text : is_utf8 (take (suc m) bs) ≡ false → ¬ (IsUtf8 (take (suc m) bs))
    no_text refused u = true≢false (sym (is_utf8-from_IsUtf8 (take (suc m) bs) u) ∙ refused)

    more : is_utf8 (take (suc m) bs) ≡ false → NoLonger bs (valid_len_up_to bs m) m → (k : ℕ) → valid_len_up_to bs m < k → k ≤ suc m → (k < suc m) ⊎ (suc m ≤ k) → ¬ (IsUtf8 (take k bs))
    more refused rest k above within (inl less) u = rest k above (omega arith) u
    more refused rest k above within (inr last) u =
        let same : k ≡ suc m = omega arith in
        no_text refused (subst (λ (n : ℕ). IsUtf8 (take n bs)) same u)

    by : IsUtf8 (take (valid_len_up_to bs m) bs) × NoLonger bs (valid_len_up_to bs m) m → (b : Bool) → is_utf8 (take (suc m) bs) ≡ b → IsUtf8 (take (if b then suc m else valid_len_up_to bs m) bs) × NoLonger bs (if b then suc m else valid_len_up_to bs m) (suc m)
    by before true passed = (IsUtf8-from_is_utf8 (take (suc m) bs) passed, λ k above within. absurd (omega arith))
    by before false refused = (before.0, λ k above within u. more refused before.1 k above within (cases_lt k (suc m)) u)

-- bytes are UTF-8, or they stop being it
pub utf8-cases : (bs : List ℕ) → IsUtf8 bs ⊎ IsValidUpTo bs (utf8_valid_len bs)
unfolding utf8_valid_len NoLonger
utf8-cases bs = by (cases_lt (valid_len_up_to bs (length bs)) (length bs)) (searched bs (length bs))
  where
    past : (m : ℕ) → NoLonger bs (valid_len_up_to bs (length bs)) (length bs) → valid_len_up_to bs (length bs) < length bs → valid_len_up_to bs (length bs) < m → (length bs < m) ⊎ (m ≤ length bs) → ¬ (IsUtf8 (take m bs))
    past m none short above (inl long) u =
        none (length bs) short (omega arith) (subst IsUtf8 (take_all m bs (omega arith) ∙ sym (take_all (length bs) bs (omega arith))) u)
    past m none short above (inr within) u = none m above within u

    by : (valid_len_up_to bs (length bs) < length bs) ⊎ (length bs ≤ valid_len_up_to bs (length bs)) → IsUtf8 (take (valid_len_up_to bs (length bs)) bs) × NoLonger bs (valid_len_up_to bs (length bs)) (length bs) → IsUtf8 bs ⊎ IsValidUpTo bs (valid_len_up_to bs (length bs))
    by (inl short) front = inr (record { short = short; front = front.0; longest = λ m above u. past m front.1 short above (cases_lt (length bs) m) u })
    by (inr whole) front = inl (subst IsUtf8 (take_all (valid_len_up_to bs (length bs)) bs whole) front.0)

-- what follows a text is UTF-8 where both together are
after-text : (xs zs : List ℕ) → IsUtf8 xs → IsUtf8 (xs ++ zs) → IsUtf8 zs
after-text xs zs u v =
    let within : length xs ≤ length (xs ++ zs) = omega (arith, length-append xs zs) in
    let front : IsUtf8 (take (length xs) (xs ++ zs)) = subst IsUtf8 (sym (take_at xs zs (length xs) refl)) u in
    subst IsUtf8 (drop_at xs zs (length xs) refl) (IsUtf8-drop (xs ++ zs) (length xs) v (IsCharBoundary-from_take (xs ++ zs) (length xs) v within front))

-- behind a text the count of valid bytes goes on
pub valid_len-after : (xs ys : List ℕ) → IsUtf8 xs → utf8_valid_len (xs ++ ys) ≡ length xs + utf8_valid_len ys
valid_len-after xs ys u = by (utf8-cases ys)
  where
    further : (n m : ℕ) → ((k : ℕ) → n < k → ¬ (IsUtf8 (take k ys))) → length xs + n < m → ¬ (IsUtf8 (take m (xs ++ ys)))
    further n m none above v =
        let k : ℕ = m - length xs in
        let is : m ≡ length xs + k = omega arith in
        let parts : take m (xs ++ ys) ≡ xs ++ take k ys = ap (λ (j : ℕ). take j (xs ++ ys)) is ∙ take-append-add xs ys k in
        none k (omega arith) (after-text xs (take k ys) u (subst IsUtf8 parts v))

    by : IsUtf8 ys ⊎ IsValidUpTo ys (utf8_valid_len ys) → utf8_valid_len (xs ++ ys) ≡ length xs + utf8_valid_len ys
    by (inl all) = utf8_valid_len-IsUtf8 (xs ++ ys) (IsUtf8-append xs ys u all) ∙ length-append xs ys ∙ ap (λ (n : ℕ). length xs + n) (sym (utf8_valid_len-IsUtf8 ys all))
    by (inr cut) =
        let short : utf8_valid_len ys < length ys = cut.short in
        utf8_valid_len-IsValidUpTo (xs ++ ys) (length xs + utf8_valid_len ys) (record {
          short = omega (arith, length-append xs ys);
          front = subst IsUtf8 (sym (take-append-add xs ys (utf8_valid_len ys))) (IsUtf8-append xs (take (utf8_valid_len ys) ys) u cut.front);
          longest = λ m above v. further (utf8_valid_len ys) m cut.longest above v;
        })

-- a line that is no text stops the text where it stops being text, whatever follows its end
pub valid_len-stopped : (line rest : List ℕ) → IsValidUpTo line (utf8_valid_len line) → utf8_valid_len (line ++ 10 ∷ rest) ≡ utf8_valid_len line
valid_len-stopped line rest cut =
    let short : utf8_valid_len line < length line = cut.short in
    let whole : length (line ++ 10 ∷ rest) ≡ length line + suc (length rest) = length-append line (10 ∷ rest) in
    utf8_valid_len-IsValidUpTo (line ++ 10 ∷ rest) (utf8_valid_len line) (record {
      short = omega arith;
      front = subst IsUtf8 (sym (take-append-le (utf8_valid_len line) line (10 ∷ rest) (omega arith))) cut.front;
      longest = λ m above v. longer m above v (cases_lt (length line) m);
    })
  where
    line_is_text : (m : ℕ) → length line < m → IsUtf8 (take m (line ++ 10 ∷ rest)) → IsUtf8 line
    line_is_text m past v =
        let k : ℕ = m - length line - 1 in
        let is : m ≡ length line + suc k = omega arith in
        let next : take m (line ++ 10 ∷ rest) ≡ line ++ 10 ∷ take k rest = ap (λ (j : ℕ). take j (line ++ 10 ∷ rest)) is ∙ take-append-add line (10 ∷ rest) (suc k) in
        let text : IsUtf8 (line ++ 10 ∷ take k rest) = subst IsUtf8 next v in
        let end : get_or (line ++ 10 ∷ take k rest) (length line) 0 ≡ 10 = ap (λ (j : ℕ). get_or (line ++ 10 ∷ take k rest) j 0) (omega arith) ∙ get_or-append-add line (10 ∷ take k rest) 0 0 in
        let within : length line < length (line ++ 10 ∷ take k rest) = omega (arith, length-append line (10 ∷ take k rest)) in
        subst IsUtf8 (take_at line (10 ∷ take k rest) (length line) refl)
        (IsUtf8-take (line ++ 10 ∷ take k rest) (length line) text (IsCharBoundary-before_ascii (line ++ 10 ∷ take k rest) (length line) within (omega arith)))

    longer : (m : ℕ) → utf8_valid_len line < m → IsUtf8 (take m (line ++ 10 ∷ rest)) → (length line < m) ⊎ (m ≤ length line) → ⊥
    longer m above v (inl past) = cut.longest (length line) (cut.short) (subst IsUtf8 (sym (take_all (length line) line (omega arith))) (line_is_text m past v))
    longer m above v (inr within) = cut.longest m above (subst IsUtf8 (take-append-le m line (10 ∷ rest) within) v)

-- a text has no byte at which it stops
pub text-whole : (bs : List ℕ) → IsUtf8 bs → nat_lt (utf8_valid_len bs) (length bs) ≡ false
text-whole bs u = let e = utf8_valid_len-IsUtf8 bs u in rw e (grind (arith, nat_tests))
