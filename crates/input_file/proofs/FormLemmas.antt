-- The form of each line that a deck's text has.
use Rattle.std.proofs.Common.{◌≡◌, ◌≢◌, ℕ, ◌≤◌, ◌+◌, Bool, true, false, cond, not, [], ◌∷◌, ◌++◌, refl, ap, sym, ◌∙◌, length, take, drop, subst, arith, nat_eq, append_assoc}
use Rattle.std.specs.Prelude.{◌&&◌, ◌||◌, reverse}
use Rattle.std.specs.List.{list_any, before_first, after_first, position_or_len}
use Rattle.std.proofs.lemmas.List.{reverse-reverse, reverse-append, length-reverse}
use Rattle.std.proofs.lemmas.List.Folds.{list_any-append}
use Rattle.std.proofs.lemmas.Bool.{eq-eqb}
use Rattle.std.proofs.lemmas.Slice.Eq.{bytes_eq-Decides}
use Rattle.std.proofs.Math.Seq.{take-append_seam, drop-append-add, take-length}
use Rattle.input_file.specs.Texts.{Text, is_blank, is_line_end, is_equals, is_slash, is_hash, without_leading, without_trailing, trimmed, is_trimmed, is_empty, begins_header, is_barred, is_barred_in_block, is_barred_in_key, is_block_name, is_key, is_value}
use Rattle.input_file.specs.Lines.{header, setting, cleaned, header_if_named, header_form_from_end, setting_if_formed, setting_form, form_of_cleaned, form_of}
use Rattle.input_file.specs.Printed.{header_line, value_part, setting_line}
use Rattle.input_file.proofs.LineLemmas.{without_return-none}

pub or-parts : (a b : Bool) → (a || b) ≡ false → (a ≡ false) × (b ≡ false)
or-parts false b h = (refl, h)
or-parts true b h = absurd (cc)

and-parts : (a b : Bool) → (a && b) ≡ true → (a ≡ true) × (b ≡ true)
and-parts true b h = (refl, h)
and-parts false b h = absurd (cc)

not-parts : (a : Bool) → not a ≡ true → a ≡ false
not-parts false h = refl
not-parts true h = absurd (cc)

-- no byte passes a test that only bytes which pass another one pass
none-weaker : (p q : ℕ → Bool) → ((b : ℕ) → p b ≡ false → q b ≡ false) → (t : Text) → list_any p t ≡ false → list_any q t ≡ false
none-weaker p q f [] h = refl
none-weaker p q f (b ∷ bs) h =
    let parts = or-parts (p b) (list_any p bs) h in
    rw (f b parts.0, none-weaker p q f bs parts.1) refl

none-append : (p : ℕ → Bool) (xs ys : Text) → list_any p xs ≡ false → list_any p ys ≡ false → list_any p (xs ++ ys) ≡ false
none-append p xs ys hx hy = rw (list_any-append p xs ys, hx, hy) refl

-- ---- cutting at the first byte that passes a test

place-none : (p : ℕ → Bool) (xs : Text) → list_any p xs ≡ false → position_or_len p xs ≡ length xs
place-none p [] h = refl
place-none p (x ∷ xs) h =
    let parts = or-parts (p x) (list_any p xs) h in
    rw (parts.0) (ap (λ n. 1 + n) (place-none p xs parts.1) ∙ one)
  where
    one : 1 + length xs ≡ length (x ∷ xs)
    one = omega arith

place-at : (p : ℕ → Bool) (xs : Text) (y : ℕ) (ys : Text) → list_any p xs ≡ false → p y ≡ true → position_or_len p (xs ++ (y ∷ ys)) ≡ length xs
place-at p [] y ys h at = rw at refl
place-at p (x ∷ xs) y ys h at =
    let parts = or-parts (p x) (list_any p xs) h in
    rw (parts.0) (ap (λ n. 1 + n) (place-at p xs y ys parts.1 at) ∙ one)
  where
    one : 1 + length xs ≡ length (x ∷ xs)
    one = omega arith

before_first-none : (p : ℕ → Bool) (xs : Text) → list_any p xs ≡ false → before_first p xs ≡ xs
before_first-none p xs h = ap (λ n. take n xs) (place-none p xs h) ∙ take-length xs

before_first-at : (p : ℕ → Bool) (xs : Text) (y : ℕ) (ys : Text) → list_any p xs ≡ false → p y ≡ true → before_first p (xs ++ (y ∷ ys)) ≡ xs
before_first-at p xs y ys h at = ap (λ n. take n (xs ++ (y ∷ ys))) (place-at p xs y ys h at) ∙ take-append_seam xs (y ∷ ys)

after_first-at : (p : ℕ → Bool) (xs : Text) (y : ℕ) (ys : Text) → list_any p xs ≡ false → p y ≡ true → after_first p (xs ++ (y ∷ ys)) ≡ ys
after_first-at p xs y ys h at = ap (λ n. drop (n + 1) (xs ++ (y ∷ ys))) (place-at p xs y ys h at) ∙ drop-append-add xs (y ∷ ys) 1

-- ---- trimming

shorter-leading : (t : Text) → length (without_leading t) ≤ length t
shorter-leading [] = omega arith
shorter-leading (b ∷ bs) =
    let rest = shorter-leading bs in
    elim (is_blank b) as (λ x. length (cond x (without_leading bs) (b ∷ bs)) ≤ length (b ∷ bs)) [ true ↦ omega (arith, rest) | false ↦ omega arith ]

-- a text of which no blank is lost at its start begins with none
whole-leading : (t : Text) → length (without_leading t) ≡ length t → without_leading t ≡ t
whole-leading [] h = refl
whole-leading (b ∷ bs) h =
    let rest = shorter-leading bs in
    (elim (is_blank b) as (λ x. length (cond x (without_leading bs) (b ∷ bs)) ≡ length (b ∷ bs) → cond x (without_leading bs) (b ∷ bs) ≡ b ∷ bs)
    [ true ↦ λ e. absurd (omega (arith, e, rest)) | false ↦ λ e. refl ]) h

length-trailing : (t : Text) → length (without_trailing t) ≤ length t
length-trailing t = omega (arith, length-reverse (without_leading (reverse t)), shorter-leading (reverse t), length-reverse t)

-- no blank is at either end
pub record Trimmed (t : Text) : Type 0 where
  pub leading : without_leading t ≡ t
  pub trailing : without_trailing t ≡ t

pub trimmed-ends : (t : Text) → is_trimmed t ≡ true → Trimmed t
trimmed-ends t h =
    let same : trimmed t ≡ t = (bytes_eq-Decides (trimmed t) t).0 h in
    let lead : without_leading t ≡ t = whole-leading t (omega (arith, shorter-leading t, length-trailing (without_leading t), ap length same)) in
    record { leading = lead; trailing = ap without_trailing (sym lead) ∙ same }

pub trimmed-same : (t : Text) → Trimmed t → trimmed t ≡ t
trimmed-same t h = ap without_trailing h.leading ∙ h.trailing

leading-append : (b : ℕ) (bs ys : Text) → without_leading (b ∷ bs) ≡ b ∷ bs → without_leading ((b ∷ bs) ++ ys) ≡ (b ∷ bs) ++ ys
leading-append b bs ys h =
    let rest = shorter-leading bs in
    (elim (is_blank b) as (λ x. cond x (without_leading bs) (b ∷ bs) ≡ b ∷ bs → cond x (without_leading (bs ++ ys)) (b ∷ (bs ++ ys)) ≡ b ∷ (bs ++ ys))
    [ true ↦ λ e. absurd (omega (arith, ap length e, rest)) | false ↦ λ e. refl ]) h

leading-front : (xs ys : Text) → is_empty xs ≡ false → without_leading xs ≡ xs → without_leading (xs ++ ys) ≡ xs ++ ys
leading-front [] ys some h = absurd (cc)
leading-front (b ∷ bs) ys some h = leading-append b bs ys h

empty-reverse : (t : Text) → is_empty t ≡ false → is_empty (reverse t) ≡ false
empty-reverse [] h = absurd (cc)
empty-reverse (b ∷ bs) h = ap is_empty (reverse-append (b ∷ []) bs) ∙ empty-front (reverse bs)
  where
    empty-front : (xs : Text) → is_empty (xs ++ (b ∷ [])) ≡ false
    empty-front [] = refl
    empty-front (x ∷ xs) = refl

trailing-back : (xs ys : Text) → is_empty ys ≡ false → without_trailing ys ≡ ys → without_trailing (xs ++ ys) ≡ xs ++ ys
trailing-back xs ys some h =
    let lead : without_leading (reverse ys) ≡ reverse ys = sym (reverse-reverse (without_leading (reverse ys))) ∙ ap reverse h in
    ap (λ t. reverse (without_leading t)) (reverse-append xs ys)
    ∙ ap reverse (leading-front (reverse ys) (reverse xs) (empty-reverse ys some) lead)
    ∙ ap reverse (sym (reverse-append xs ys))
    ∙ reverse-reverse (xs ++ ys)

-- a blank after a text is lost
trailing-blank : (t : Text) → without_trailing (t ++ (32 ∷ [])) ≡ without_trailing t
trailing-blank t = ap (λ u. reverse (without_leading u)) (reverse-append t (32 ∷ []))

-- ---- cleaning

ends-not : (c : ℕ) (t : Text) → list_any (λ b. nat_eq b c) t ≡ false → (front : Text) → t ≢ front ++ (c ∷ [])
ends-not c t none front e = absurd (contradiction (nat_eq c c) (nat_eq-refl c) (or-parts (nat_eq c c) false (or-parts (list_any (λ b. nat_eq b c) front) (list_any (λ b. nat_eq b c) (c ∷ [])) (sym (list_any-append (λ b. nat_eq b c) front (c ∷ [])) ∙ ap (list_any (λ b. nat_eq b c)) (sym e) ∙ none)).1).0)
  where
    nat_eq-refl : (n : ℕ) → nat_eq n n ≡ true
    nat_eq-refl n = eq-eqb n n refl

    contradiction : (b : Bool) → b ≡ true → b ≡ false → ⊥
    contradiction b h k = cc

-- a line without `#` and CR and without blanks at its ends is clean
cleaned-same : (t : Text) → list_any is_barred t ≡ false → Trimmed t → cleaned t ≡ t
cleaned-same t none h =
    let no_hash : list_any is_hash t ≡ false = none-weaker is_barred is_hash (λ b e. (or-parts (is_hash b) (is_line_end b) e).0) t none in
    let no_return : list_any (λ b. nat_eq b 13) t ≡ false = none-weaker is_barred (λ b. nat_eq b 13) (λ b e. (or-parts (nat_eq b 13) (nat_eq b 10) (or-parts (is_hash b) (is_line_end b) e).1).0) t none in
    ap (λ u. trimmed (before_first is_hash u)) (without_return-none t (ends-not 13 t no_return))
    ∙ ap trimmed (before_first-none is_hash t no_hash)
    ∙ trimmed-same t h

-- ---- headers

-- what is known of a block's name
pub record Named (t : Text) : Type 0 where
  pub ends : Trimmed t
  pub free : list_any is_barred t ≡ false

pub named : (t : Text) → is_block_name t ≡ true → Named t
named t h =
    let parts = and-parts (not (is_empty t) && is_trimmed t) (not (list_any is_barred_in_block t)) h in
    let free : list_any is_barred_in_block t ≡ false = not-parts (list_any is_barred_in_block t) parts.1 in
    record {
      ends = trimmed-ends t (and-parts (not (is_empty t)) (is_trimmed t) parts.0).1;
      free = none-weaker is_barred_in_block is_barred (λ b e. (or-parts (nat_eq b 60 || nat_eq b 62 || is_equals b) (is_barred b) e).1) t free;
    }

-- the line of a header says that the block begins
pub form_of-header_line : (name : Text) → is_block_name name ≡ true → form_of (header_line name) ≡ header name
form_of-header_line name is_name =
    let n : Named name = named name is_name in
    let free : list_any is_barred (name ++ (62 ∷ [])) ≡ false = none-append is_barred name (62 ∷ []) n.free refl in
    let trail : without_trailing (header_line name) ≡ header_line name = trailing-back (60 ∷ name) (62 ∷ []) refl refl in
    ap form_of_cleaned (cleaned-same (header_line name) free (record { leading = refl; trailing = trail }))
    ∙ ap header_form_from_end (reverse-append name (62 ∷ []))
    ∙ ap (λ t. header_if_named (trimmed t)) (reverse-reverse name)
    ∙ ap header_if_named (trimmed-same name n.ends)
    ∙ rw is_name refl

-- ---- keys with values

-- what is known of a key
pub record Keyed (t : Text) : Type 0 where
  pub some : is_empty t ≡ false
  pub no_header : begins_header t ≡ false
  pub ends : Trimmed t
  pub free : list_any is_barred t ≡ false
  pub no_equals : list_any is_equals t ≡ false

pub keyed : (t : Text) → is_key t ≡ true → Keyed t
keyed t h =
    let last = and-parts (not (is_empty t) && not (begins_header t) && is_trimmed t) (not (list_any is_barred_in_key t)) h in
    let third = and-parts (not (is_empty t) && not (begins_header t)) (is_trimmed t) last.0 in
    let first = and-parts (not (is_empty t)) (not (begins_header t)) third.0 in
    let free : list_any is_barred_in_key t ≡ false = not-parts (list_any is_barred_in_key t) last.1 in
    record {
      some = not-parts (is_empty t) first.0;
      no_header = not-parts (begins_header t) first.1;
      ends = trimmed-ends t third.1;
      free = none-weaker is_barred_in_key is_barred (λ b e. (or-parts (is_equals b || is_slash b) (is_barred b) e).1) t free;
      no_equals = none-weaker is_barred_in_key is_equals (λ b e. (or-parts (is_equals b) (is_slash b) (or-parts (is_equals b || is_slash b) (is_barred b) e).0).0) t free;
    }

pub valued : (t : Text) → is_value t ≡ true → Named t
valued t h =
    let parts = and-parts (is_trimmed t) (not (list_any is_barred t)) h in
    record { ends = trimmed-ends t parts.0; free = not-parts (list_any is_barred t) parts.1 }

value_part-free : (v : Text) → list_any is_barred v ≡ false → list_any is_barred (value_part v) ≡ false
value_part-free [] h = refl
value_part-free (b ∷ bs) h = h

value_part-trimmed : (v : Text) → Trimmed v → trimmed (value_part v) ≡ v
value_part-trimmed [] h = refl
value_part-trimmed (b ∷ bs) h = trimmed-same (b ∷ bs) h

setting_line-trailing : (k v : Text) → Trimmed v → without_trailing (setting_line k v) ≡ setting_line k v
setting_line-trailing k [] h =
    let e : (k ++ (32 ∷ [])) ++ (61 ∷ []) ≡ setting_line k [] = append_assoc k (32 ∷ []) (61 ∷ []) in
    subst (λ (t : Text). without_trailing t ≡ t) e (trailing-back (k ++ (32 ∷ [])) (61 ∷ []) refl refl)
setting_line-trailing k (b ∷ bs) h =
    let e : (k ++ (32 ∷ 61 ∷ 32 ∷ [])) ++ (b ∷ bs) ≡ setting_line k (b ∷ bs) = append_assoc k (32 ∷ 61 ∷ 32 ∷ []) (b ∷ bs) in
    subst (λ (t : Text). without_trailing t ≡ t) e (trailing-back (k ++ (32 ∷ 61 ∷ 32 ∷ [])) (b ∷ bs) refl h.trailing)

-- a line that begins with a key is no header
form_of_cleaned-key : (k rest : Text) → is_empty k ≡ false → begins_header k ≡ false → form_of_cleaned (k ++ rest) ≡ setting_form (k ++ rest)
form_of_cleaned-key [] rest some other = absurd (cc)
form_of_cleaned-key (b ∷ bs) rest some other = rw other refl

setting_form-line : (k v : Text) → list_any is_equals k ≡ false → setting_form (setting_line k v) ≡ setting_if_formed (trimmed (k ++ (32 ∷ []))) (trimmed (value_part v))
setting_form-line k v none =
    let e : (k ++ (32 ∷ [])) ++ (61 ∷ value_part v) ≡ setting_line k v = append_assoc k (32 ∷ []) (61 ∷ value_part v) in
    let front : list_any is_equals (k ++ (32 ∷ [])) ≡ false = none-append is_equals k (32 ∷ []) none refl in
    let some : list_any is_equals ((k ++ (32 ∷ [])) ++ (61 ∷ value_part v)) ≡ true = rw (list_any-append is_equals (k ++ (32 ∷ [])) (61 ∷ value_part v), front) refl in
    subst (λ (t : Text). setting_form t ≡ setting_if_formed (trimmed (k ++ (32 ∷ []))) (trimmed (value_part v))) e
    (rw (some, before_first-at is_equals (k ++ (32 ∷ [])) 61 (value_part v) front refl, after_first-at is_equals (k ++ (32 ∷ [])) 61 (value_part v) front refl) refl)

-- the line of a key and its value says that the key has the value
pub form_of-setting_line : (k v : Text) → is_key k ≡ true → is_value v ≡ true → form_of (setting_line k v) ≡ setting k v
form_of-setting_line k v is_k is_v =
    let key : Keyed k = keyed k is_k in
    let value : Named v = valued v is_v in
    let free : list_any is_barred (setting_line k v) ≡ false = none-append is_barred k (32 ∷ 61 ∷ value_part v) key.free (value_part-free v value.free) in
    let lead : without_leading (setting_line k v) ≡ setting_line k v = leading-front k (32 ∷ 61 ∷ value_part v) key.some key.ends.leading in
    let front : without_leading (k ++ (32 ∷ [])) ≡ k ++ (32 ∷ []) = leading-front k (32 ∷ []) key.some key.ends.leading in
    let cut : trimmed (k ++ (32 ∷ [])) ≡ k = ap without_trailing front ∙ trailing-blank k ∙ key.ends.trailing in
    ap form_of_cleaned (cleaned-same (setting_line k v) free (record { leading = lead; trailing = setting_line-trailing k v value.ends }))
    ∙ form_of_cleaned-key k (32 ∷ 61 ∷ value_part v) key.some key.no_header
    ∙ setting_form-line k v key.no_equals
    ∙ rw (cut, value_part-trimmed v value.ends, is_k, is_v) refl

-- ---- no line has LF in it

free-whole : (t : Text) → list_any is_barred t ≡ false → list_any (λ b. nat_eq b 10) t ≡ false
free-whole t h = none-weaker is_barred (λ b. nat_eq b 10) (λ b e. (or-parts (nat_eq b 13) (nat_eq b 10) (or-parts (is_hash b) (is_line_end b) e).1).1) t h

pub header_line-whole : (name : Text) → is_block_name name ≡ true → list_any (λ b. nat_eq b 10) (header_line name) ≡ false
header_line-whole name h = free-whole (header_line name) (none-append is_barred name (62 ∷ []) (named name h).free refl)

pub setting_line-whole : (k v : Text) → is_key k ≡ true → is_value v ≡ true → list_any (λ b. nat_eq b 10) (setting_line k v) ≡ false
setting_line-whole k v is_k is_v = free-whole (setting_line k v) (none-append is_barred k (32 ∷ 61 ∷ value_part v) (keyed k is_k).free (value_part-free v (valued v is_v).free))
