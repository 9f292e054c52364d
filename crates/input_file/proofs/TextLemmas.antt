-- Trimming.
use Rattle.std.proofs.Common.{◌≡◌, ◌≢◌, ◌⊎◌, inl, inr, ℕ, zero, suc, ◌+◌, ◌-◌, ◌/◌, ◌%◌, ◌<◌, ◌≤◌, Bool, true, false, true≢false, cond, List, [], ◌∷◌, ◌++◌, length, take, drop, refl, ap, sym, ◌∙◌, arith}
use Rattle.std.specs.Prelude.{Option, Some, None, reverse, IfSome, nat_lt}
use Rattle.std.specs.Char.{char_set_contains}
use Rattle.std.specs.Str.Pattern.{FindsPrefixBy, FindsSuffixBy, CutsPrefixes, CutsSuffixes, IsFullyTrimmed, IsTrimStartMatches, IsTrimEndMatches, IsTrimMatches, HasCharAt, HasPassingCharAt}
use Rattle.std.proofs.Math.Seq.{drop-length, take-append_seam}
use Rattle.std.proofs.Math.Utf8.{encode, low_scalar}
use Rattle.std.proofs.lemmas.Bool.{cases_lt}
use Rattle.std.proofs.lemmas.List.{reverse-reverse, reverse-append, take-append-drop, take-take}
use Rattle.std.proofs.lemmas.Str.{encode_ascii, length-encode}
use Rattle.std.proofs.lemmas.Str.Pattern.{drop_at_char}
use Rattle.std.proofs.lemmas.Bool.Decides.{nat_tests}
use Rattle.input_file.specs.Texts.{Text, is_blank, without_leading_by, without_trailing_by, trimmed}

drop-none : (t : Text) → drop 0 t ≡ t
drop-none [] = refl
drop-none (b ∷ bs) = refl

take-nil : (n : ℕ) → take {A = ℕ} n [] ≡ []
take-nil zero = refl
take-nil (suc n) = refl

longer : (c : ℕ) (t : Text) → t ≢ c ∷ t
longer c t e = let l : length t ≡ suc (length t) = ap length e in omega (arith, l)

reverse-cons-is : (t rest : Text) (c : ℕ) → reverse t ≡ c ∷ rest → t ≡ reverse rest ++ (c ∷ [])
reverse-cons-is t rest c e = sym (reverse-reverse t) ∙ ap reverse e ∙ reverse-append (c ∷ []) rest

-- the bytes of a character past ASCII end with one that is past ASCII
record EndsHigh (bs : Text) : Type 0 where
  front : Text
  last : ℕ
  is : bs ≡ front ++ (last ∷ [])
  high : 128 ≤ last

ends-high : (front : Text) (n : ℕ) → EndsHigh (front ++ (128 + n) ∷ [])
ends-high front n = record { front = front; last = 128 + n; is = refl; high = omega arith }

encoded-high : (c : ℕ) → 128 ≤ c → EndsHigh (encode c)
unfolding encode
encoded-high c h = let wide : nat_lt c 128 ≡ false = grind (arith, nat_tests) in rw wide (by (nat_lt c 2048) (nat_lt c 65536))
  where
    by : (two three : Bool) → EndsHigh (cond two ((192 + c / 64) ∷ (128 + c % 64) ∷ []) (cond three ((224 + c / 4096) ∷ (128 + c / 64 % 64) ∷ (128 + c % 64) ∷ []) ((240 + c / 262144) ∷ (128 + c / 4096 % 64) ∷ (128 + c / 64 % 64) ∷ (128 + c % 64) ∷ [])))
    by true three = ends-high (_ ∷ []) (c % 64)
    by false true = ends-high (_ ∷ _ ∷ []) (c % 64)
    by false false = ends-high (_ ∷ _ ∷ _ ∷ []) (c % 64)

-- characters of one byte that pass a test
module _ (test : ℕ → Bool) (ascii : (c : ℕ) → test c ≡ true → c < 128) where
  leading-gone : (c : ℕ) (t rest : Text) → test c ≡ true → t ≡ c ∷ rest → without_leading_by test t ≡ without_leading_by test rest
  leading-gone c t rest passes e = rw (e, passes) refl

  trailing-gone : (c : ℕ) (t front : Text) → test c ≡ true → t ≡ front ++ (c ∷ []) → without_trailing_by test t ≡ without_trailing_by test front
  trailing-gone c t front passes e = rw (e, reverse-append front (c ∷ []), passes) refl

  leading-none : (t : Text) → ((c : ℕ) (rest : Text) → test c ≡ true → t ≢ c ∷ rest) → without_leading_by test t ≡ t
  leading-none [] none = refl
  leading-none (b ∷ bs) none =
      elim (test b) as (λ x. test b ≡ x → cond x (without_leading_by test bs) (b ∷ bs) ≡ b ∷ bs) [
        | true ↦ λ h. absurd (none b bs h refl)
        | false ↦ λ _. refl
      ] refl

  trailing-none : (t : Text) → ((c : ℕ) (front : Text) → test c ≡ true → t ≢ front ++ (c ∷ [])) → without_trailing_by test t ≡ t
  trailing-none t none =
      ap reverse (leading-none (reverse t) (λ c rest passes e. none c (reverse rest) passes (reverse-cons-is t rest c e)))
      ∙ reverse-reverse t

  passing-at : (t : Text) (i j : ℕ) → HasPassingCharAt test t i j → (c : ℕ) × (test c ≡ true) × (drop i t ≡ c ∷ drop j t)
  passing-at t i j h = (h.0, h.1, drop_at_char h.0 t i j h.2 (ascii h.0 h.1))

  cut-front : (t : Text) (n : ℕ) → FindsPrefixBy test t (Some n) → without_leading_by test t ≡ without_leading_by test (drop n t)
  cut-front t n h =
      let p = passing-at t 0 n h in
      leading-gone p.0 t (drop n t) p.1 (sym (drop-none t) ∙ p.2)

  last-is : (t : Text) (i : ℕ) (c : ℕ) → drop i t ≡ c ∷ drop (length t) t → t ≡ take i t ++ (c ∷ [])
  last-is t i c e = sym (take-append-drop i t) ∙ ap (λ (x : Text). take i t ++ x) (e ∙ ap (λ (x : Text). c ∷ x) (drop-length t))

  cut-back : (t : Text) (n : ℕ) → FindsSuffixBy test t (Some n) → without_trailing_by test t ≡ without_trailing_by test (take (length t - n) t)
  cut-back t n h =
      let p = passing-at t (length t - n) (length t) h in
      trailing-gone p.0 t (take (length t - n) t) p.1 (last-is t (length t - n) p.0 p.2)

  -- the first character of what is left does not pass
  first-stays : (t : Text) (o : Option ℕ) → FindsPrefixBy test t o → IfSome o (λ n. n ≡ 0) → (c : ℕ) (rest : Text) → c < 128 → t ≡ encode c ++ rest → test c ≡ false
  first-stays t None h z c rest low e = h c rest (low_scalar c (omega (arith, low))) e
  first-stays t (Some n) h z c rest low e =
      let p = passing-at t 0 n h in
      absurd (longer p.0 t (sym (drop-none t) ∙ p.2 ∙ ap (λ (k : ℕ). p.0 ∷ drop k t) z ∙ ap (λ (x : Text). p.0 ∷ x) (drop-none t)))

  front-done : (t : Text) (o : Option ℕ) → FindsPrefixBy test t o → IfSome o (λ n. n ≡ 0) → without_leading_by test t ≡ t
  front-done t o h z =
      leading-none t (λ c rest passes e. true≢false (sym passes ∙ first-stays t o h z c rest (ascii c passes) (e ∙ ap (λ (x : Text). x ++ rest) (sym (encode_ascii c (ascii c passes))))))

  back-done : (t : Text) (o : Option ℕ) → FindsSuffixBy test t o → IfSome o (λ n. n ≡ 0) → without_trailing_by test t ≡ t
  back-done t None h z =
      trailing-none t (λ c front passes e. true≢false (sym passes ∙ h c front (low_scalar c (omega (arith, ascii c passes))) (e ∙ ap (λ (x : Text). front ++ x) (sym (encode_ascii c (ascii c passes))))))
  back-done t (Some n) h z =
      let p = passing-at t (length t - n) (length t) h in
      let same : length t - n ≡ length t = omega (arith, z) in
      absurd (longer p.0 (drop (length t) t) (ap (λ (k : ℕ). drop k t) (sym same) ∙ p.2))

  -- a pattern that finds such characters
  module _ (R : Text → Option ℕ → Type 0) (finds : (t : Text) (o : Option ℕ) → R t o → FindsPrefixBy test t o) where
    cuts-front : (t : Text) (ns : List ℕ) (r : Text) → CutsPrefixes R t ns r → without_leading_by test t ≡ without_leading_by test r
    cuts-front t [] r h = ap (without_leading_by test) (sym h)
    cuts-front t (n ∷ ns) r h = cuts-front t ns h.0 h.1 ∙ cut-front h.0 n (finds h.0 (Some n) h.2) ∙ ap (without_leading_by test) (sym h.3)

    trimmed-start : (t r : Text) → IsTrimStartMatches R t r → r ≡ without_leading_by test t
    trimmed-start t r h = sym (cuts-front t h.0.0 r h.0.1 ∙ front-done r h.1.0 (finds r h.1.0 h.1.1) h.1.2)

  module _ (R : Text → Option ℕ → Type 0) (finds : (t : Text) (o : Option ℕ) → R t o → FindsSuffixBy test t o) where
    cuts-back : (t : Text) (ns : List ℕ) (r : Text) → CutsSuffixes R t ns r → without_trailing_by test t ≡ without_trailing_by test r
    cuts-back t [] r h = ap (without_trailing_by test) (sym h)
    cuts-back t (n ∷ ns) r h = cuts-back t ns h.0 h.1 ∙ cut-back h.0 n (finds h.0 (Some n) h.2) ∙ ap (without_trailing_by test) (sym h.3)

    trimmed-end : (t r : Text) → IsTrimEndMatches R t r → r ≡ without_trailing_by test t
    trimmed-end t r h = sym (cuts-back t h.0.0 r h.0.1 ∙ back-done r h.1.0 (finds r h.1.0 h.1.1) h.1.2)

  -- what a byte that does not pass follows is trimmed alone
  leading-stops : (xs : Text) (l : ℕ) (rest : Text) → test l ≡ false → without_leading_by test (xs ++ (l ∷ rest)) ≡ without_leading_by test xs ++ (l ∷ rest)
  leading-stops [] l rest fails = rw fails refl
  leading-stops (x ∷ xs) l rest fails =
      elim (test x) as (λ b. cond b (without_leading_by test (xs ++ (l ∷ rest))) (x ∷ (xs ++ (l ∷ rest))) ≡ cond b (without_leading_by test xs) (x ∷ xs) ++ (l ∷ rest)) [
        | true ↦ leading-stops xs l rest fails
        | false ↦ refl
      ]

  trailing-stops : (xs ys front : Text) (l : ℕ) → xs ≡ front ++ (l ∷ []) → test l ≡ false → without_trailing_by test (xs ++ ys) ≡ xs ++ without_trailing_by test ys
  trailing-stops xs ys front l e fails =
      let back : reverse xs ≡ l ∷ reverse front = ap reverse e ∙ reverse-append front (l ∷ []) in
      ap (λ (x : Text). reverse (without_leading_by test x)) (reverse-append xs ys ∙ ap (λ (x : Text). reverse ys ++ x) back)
      ∙ ap reverse (leading-stops (reverse ys) l (reverse front) fails ∙ ap (λ (x : Text). without_leading_by test (reverse ys) ++ x) (sym back))
      ∙ reverse-append (without_leading_by test (reverse ys)) (reverse xs)
      ∙ ap (λ (x : Text). x ++ without_trailing_by test ys) (reverse-reverse xs)

  -- the bytes of a character that does not pass
  char-stops : (c : ℕ) (ys : Text) → (c < 128 → test c ≡ false) → (c < 128) ⊎ (128 ≤ c) → without_trailing_by test (encode c ++ ys) ≡ encode c ++ without_trailing_by test ys
  char-stops c ys fails (inl low) = trailing-stops (encode c) ys [] c (encode_ascii c low) (fails low)
  char-stops c ys fails (inr high) =
      let l = encoded-high c high in
      trailing-stops (encode c) ys l.front l.last l.is (high-fails l.last l.high (test l.last) refl)
    where
      high-fails : (b : ℕ) → 128 ≤ b → (x : Bool) → test b ≡ x → test b ≡ false
      high-fails b h true e = absurd (omega (arith, ascii b e))
      high-fails b h false e = e

  front-kept : (m r : Text) (c w : ℕ) → HasCharAt c m 0 w → w ≤ length r → r ≡ take (length r) m → r ≡ encode c ++ drop w r
  front-kept m r c w at room part =
      let whole : m ≡ encode c ++ drop w m = sym (drop-none m) ∙ at.split in
      let width : w ≡ length (encode c) = omega (arith, at.ends, length-encode c) in
      let front : take w m ≡ encode c = ap (λ (k : ℕ). take k m) width ∙ ap (take (length (encode c))) whole ∙ take-append_seam (encode c) (drop w m) in
      let same : take w r ≡ take w m = ap (take w) part ∙ take-take w (length r) m room in
      sym (take-append-drop w r) ∙ ap (λ (x : Text). x ++ drop w r) (same ∙ front)

  module _ (B E : Text → Option ℕ → Type 0) (begins : (t : Text) (o : Option ℕ) → B t o → FindsPrefixBy test t o) (ends : (t : Text) (o : Option ℕ) → E t o → FindsSuffixBy test t o) where
    both-ends : (m r : Text) → IsFullyTrimmed B m → r ≡ take (length r) m → (0 < length m → (c : ℕ) × (w : ℕ) × HasCharAt c m 0 w × (w ≤ length r) × IsTrimEndMatches E (drop w m) (drop w r)) → r ≡ without_trailing_by test m
    both-ends [] r done part rest = part ∙ take-nil (length r)
    both-ends (b ∷ bs) r done part rest =
        let q = rest (omega arith) in
        let whole : b ∷ bs ≡ encode q.0 ++ drop q.1 (b ∷ bs) = q.2.split in
        let fails : q.0 < 128 → test q.0 ≡ false = λ low. first-stays (b ∷ bs) done.0 (begins (b ∷ bs) done.0 done.1) done.2 q.0 (drop q.1 (b ∷ bs)) low whole in
        front-kept (b ∷ bs) r q.0 q.1 q.2 q.3 part
        ∙ ap (λ (x : Text). encode q.0 ++ x) (trimmed-end E ends (drop q.1 (b ∷ bs)) (drop q.1 r) q.4)
        ∙ sym (ap (without_trailing_by test) whole ∙ char-stops q.0 (drop q.1 (b ∷ bs)) fails (cases_lt q.0 128))

    pub trimmed-both : (t r : Text) → IsTrimMatches B E t r → r ≡ without_trailing_by test (without_leading_by test t)
    trimmed-both t r h = both-ends h.0 r h.1.1 h.2 h.3 ∙ ap (without_trailing_by test) (trimmed-start B begins t h.0 h.1)

-- a space and a tab, as a list of characters finds them
is_blank-low : (c : ℕ) → is_blank c ≡ true → c < 128
is_blank-low c h = grind (arith, nat_tests)

is_blank-listed : (c : ℕ) → char_set_contains (32 ∷ 9 ∷ []) c ≡ is_blank c
is_blank-listed c = grind (arith, nat_tests)

abbrev Listed : ((ℕ → Bool) → Text → Option ℕ → Type 0) → Text → Option ℕ → Type 0
Listed Finds t o = (k : ℕ → Bool) → ((c : ℕ) → char_set_contains (32 ∷ 9 ∷ []) c ≡ k c) → Finds k t o

pub blanks_trimmed : (t r : Text) → IsTrimMatches (Listed FindsPrefixBy) (Listed FindsSuffixBy) t r → r ≡ trimmed t
blanks_trimmed =
    trimmed-both is_blank is_blank-low (Listed FindsPrefixBy) (Listed FindsSuffixBy) (λ t o h. h is_blank is_blank-listed) (λ t o h. h is_blank is_blank-listed)
