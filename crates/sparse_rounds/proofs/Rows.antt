-- The kernels of a row of blocks meet the laws.
use Rattle.std.proofs.Common.{◌≡◌, ℕ, zero, suc, ◌+◌, ◌<◌, ◌≤◌, ◌==◌, Bool, true, false, cond, ◌&&◌, ◌||◌, not, nat_lt, inl, inr, List, [], ◌∷◌, ◌++◌, map, count_by, refl, arith, ap, sym, ◌∙◌, eq-eqb}
use Rattle.std.specs.List.{list_any, range_with_len}
use Rattle.std.proofs.lemmas.Bool.{and_from, and_left, and_parts, and_right, cases_eq, eqb-false, eqb-true, false≢true, le-ltb, leb-true, lt-ltb, ltb-false, ltb-true, ne_eqb, not-false, not-true, or_left, or_right}
use Rattle.cycle_rounds.proofs.Lists.{count_append, count_cons, count_cons_no}
use Rattle.sparse_rounds.specs.Kernels.{AreKernels, SameParts}
use Rattle.sparse_rounds.specs.Dense.{AreZeroThresholds}
use Rattle.sparse_rounds.specs.Row.{Ends, RowOf, RowsMeetTheLaws, Side, due_of, ends_of, row_kernels, same_bool, same_side}

same_bool_is : (a b : Bool) → same_bool a b ≡ true → a ≡ b
same_bool_is true true h = refl
same_bool_is true false h = absurd (false≢true h)
same_bool_is false true h = absurd (false≢true h)
same_bool_is false false h = refl

bool_same : (a : Bool) → same_bool a a ≡ true
bool_same true = refl
bool_same false = refl

side_of : (x y : Side) → x.block ≡ y.block → x.high ≡ y.high → x ≡ y
side_of x y e h = λ i. record { block = e i; high = h i }

side_is : (x y : Side) → same_side x y ≡ true → x ≡ y
side_is x y h = let p = and_parts (x.block == y.block) (same_bool x.high y.high) h in side_of x y (eqb-true x.block y.block p.0) (same_bool_is x.high y.high p.1)

side_same : (x : Side) → same_side x x ≡ true
side_same x = and_from (x.block == x.block) (same_bool x.high x.high) (eq-eqb x.block x.block refl) (bool_same x.high)

-- the sides of one kind in a range of blocks
abbrev sides : Bool → ℕ → ℕ → List Side
sides high a n = map (λ b. record { block = b; high = high }) (range_with_len a n)

below_none : (x : Side) (high : Bool) (a n : ℕ) → x.block < a → count_by (same_side x) (sides high a n) ≡ 0
below_none x high a zero h = refl
below_none x high a (suc n) h = count_cons_no (same_side x) (record { block = a; high = high }) (sides high (a + 1) n) (and_left (x.block == a) (same_bool x.high high) (ne_eqb x.block a (λ e. omega arith))) ∙ below_none x high (a + 1) n (omega arith)

other_none : (x : Side) (high : Bool) (a n : ℕ) → same_bool x.high high ≡ false → count_by (same_side x) (sides high a n) ≡ 0
other_none x high a zero h = refl
other_none x high a (suc n) h = count_cons_no (same_side x) (record { block = a; high = high }) (sides high (a + 1) n) (and_right (x.block == a) (same_bool x.high high) h) ∙ other_none x high (a + 1) n h

once : (x : Side) (high : Bool) (a n : ℕ) → count_by (same_side x) (sides high a n) ≤ 1
once x high a zero = omega arith
once x high a (suc n) =
    let c = count_cons (same_side x) (record { block = a; high = high }) (sides high (a + 1) n) in
    elim (cases_eq x.block a) [
      | inl e ↦ (let z = below_none x high (a + 1) n (omega arith) in let l = one_most (same_side x (record { block = a; high = high })) in omega arith)
      | inr ne ↦ (let r = once x high (a + 1) n in let z = count_cons_no (same_side x) (record { block = a; high = high }) (sides high (a + 1) n) (and_left (x.block == a) (same_bool x.high high) (ne_eqb x.block a ne)) in omega arith)
    ]
  where
    one_most : (b : Bool) → cond b 1 0 ≤ 1
    one_most true = omega arith
    one_most false = omega arith

both_once : (x : Side) (n : ℕ) (high : Bool) → x.high ≡ high → count_by (same_side x) (sides false 1 n) + count_by (same_side x) (sides true 0 n) ≤ 1
both_once x n true e = let a = other_none x false 1 n (ap (λ (v : Bool). same_bool v false) e) in let b = once x true 0 n in omega arith
both_once x n false e = let a = other_none x true 0 n (ap (λ (v : Bool). same_bool v true) e) in let b = once x false 1 n in omega arith

due_once : (n : ℕ) (x : Side) → count_by (same_side x) (due_of n) ≤ 1
due_once zero x = omega arith
due_once (suc n) x = let a = count_append (same_side x) (sides false 1 n) (sides true 0 n) in let b = both_once x n x.high refl in omega arith

any_append : {A : Type 0} (q : A → Bool) (xs ys : List A) → list_any q ys ≡ true → list_any q (xs ++ ys) ≡ true
any_append q [] ys h = h
any_append q (x ∷ xs) ys h = or_right (q x) (list_any q (xs ++ ys)) (any_append q xs ys h)

any_first_by : {A : Type 0} (q : A → Bool) (xs ys : List A) → (list_any q xs ≡ true → list_any q (xs ++ ys) ≡ true) → (b : Bool) → (b || list_any q xs) ≡ true → (b || list_any q (xs ++ ys)) ≡ true
any_first_by q xs ys again true h = refl
any_first_by q xs ys again false h = again h

any_first : {A : Type 0} (q : A → Bool) (xs ys : List A) → list_any q xs ≡ true → list_any q (xs ++ ys) ≡ true
any_first q [] ys h = absurd (false≢true h)
any_first q (x ∷ xs) ys h = any_first_by q xs ys (any_first q xs ys) (q x) h

among : (b : ℕ) (high : Bool) (a n : ℕ) → a ≤ b → b < a + n → list_any (same_side (record { block = b; high = high })) (sides high a n) ≡ true
among b high a zero low up = absurd (omega arith)
among b high a (suc n) low up = elim (cases_eq b a) [
  | inl e ↦ or_left (b == a && same_bool high high) (list_any (same_side (record { block = b; high = high })) (sides high (a + 1) n)) (and_from (b == a) (same_bool high high) (eq-eqb b a e) (bool_same high))
  | inr ne ↦ or_right (b == a && same_bool high high) (list_any (same_side (record { block = b; high = high })) (sides high (a + 1) n)) (among b high (a + 1) n (omega arith) (omega arith))
]

low_due : (n b : ℕ) → 1 ≤ b → b < n → list_any (same_side (record { block = b; high = false })) (due_of n) ≡ true
low_due zero b l h = absurd (omega arith)
low_due (suc n) b l h = any_first (same_side (record { block = b; high = false })) (sides false 1 n) (sides true 0 n) (among b false 1 n l (omega arith))

high_due : (n b : ℕ) → b + 1 < n → list_any (same_side (record { block = b; high = true })) (due_of n) ≡ true
high_due zero b h = absurd (omega arith)
high_due (suc n) b h = any_append (same_side (record { block = b; high = true })) (sides false 1 n) (sides true 0 n) (among b true 0 n (omega arith) (omega arith))

-- the ends of a block read what is due to it
ends_same : (low low' high high' : ℕ) → low ≡ low' → high ≡ high' → ◌≡◌ {A = Ends} (record { low = low; high = high }) (record { low = low'; high = high' })
ends_same low low' high high' e h = λ i. record { low = e i; high = h i }

low_same : (w : RowOf) (b f x y : ℕ) (first inside : Bool) → (b == 0) ≡ first → nat_lt b w.blocks ≡ inside → (1 ≤ b → b < w.blocks → x ≡ y) → cond first (w.inflow f) (cond inside x 0) ≡ cond first (w.inflow f) (cond inside y 0)
low_same w b f x y true inside e d h = refl
low_same w b f x y false false e d h = refl
low_same w b f x y false true e d h = h (let ne : b ≡ 0 → ⊥ = eqb-false b 0 e in omega arith) (ltb-true b w.blocks d)

high_same : (w : RowOf) (b x y : ℕ) (inside : Bool) → nat_lt (b + 1) w.blocks ≡ inside → (b + 1 < w.blocks → x ≡ y) → cond inside x 0 ≡ cond inside y 0
high_same w b x y false d h = refl
high_same w b x y true d h = h (ltb-true (b + 1) w.blocks d)

ends_read : (w : RowOf) (b f : ℕ) (c d : Side → ℕ) → SameParts same_side (λ x. x.block) (due_of w.blocks) b c d → ends_of w b f c ≡ ends_of w b f d
ends_read w b f c d h =
    let l : Side = record { block = b; high = false } in
    let u : Side = record { block = b; high = true } in
    ends_same (ends_of w b f c).low (ends_of w b f d).low (ends_of w b f c).high (ends_of w b f d).high
    (low_same w b f (c l) (d l) (b == 0) (nat_lt b w.blocks) refl refl (λ p q. h l (record { is_due = low_due w.blocks b p q; is_to = refl })))
    (high_same w b (c u) (d u) (nat_lt (b + 1) w.blocks) refl (λ q. h u (record { is_due = high_due w.blocks b q; is_to = refl })))

-- with no parts and no inflow they are nothing
dry_low : (w : RowOf) (b f : ℕ) (first inside : Bool) → (b == 0) ≡ first → (b == 0 && not (w.inflow f == 0)) ≡ false → cond first (w.inflow f) (cond inside 0 0) ≡ 0
dry_low w b f true inside e h = eqb-true (w.inflow f) 0 (not-false (w.inflow f == 0) (sym (ap (λ (v : Bool). v && not (w.inflow f == 0)) e) ∙ h))
dry_low w b f false true e h = refl
dry_low w b f false false e h = refl

dry_high : (inside : Bool) → ◌≡◌ {A = ℕ} (cond inside 0 0) 0
dry_high true = refl
dry_high false = refl

dry : (w : RowOf) (b f : ℕ) (c : Side → ℕ) → (b == 0 && not (w.inflow f == 0)) ≡ false → SameParts same_side (λ x. x.block) (due_of w.blocks) b c (λ _. 0) → ends_of w b f c ≡ record { low = 0; high = 0 }
dry w b f c e h = ends_read w b f c (λ _. 0) h ∙ ends_same (ends_of w b f (λ _. 0)).low 0 (ends_of w b f (λ _. 0)).high 0 (dry_low w b f (b == 0) (nat_lt b w.blocks) refl e) (dry_high (nat_lt (b + 1) w.blocks))

owned_by : (b n : ℕ) (inside : Bool) → nat_lt b n ≡ inside → cond inside b n < n + 1
owned_by b n true e = let l = ltb-true b n e in omega arith
owned_by b n false e = omega arith

above_is : (w : RowOf) (b f : ℕ) → (b == 0 && nat_lt w.above (w.inflow f)) ≡ true → (b == 0 && not (w.inflow f == 0)) ≡ true
above_is w b f h =
    let p = and_parts (b == 0) (nat_lt w.above (w.inflow f)) h in
    let l = ltb-true w.above (w.inflow f) p.1 in
    and_from (b == 0) (not (w.inflow f == 0)) p.0 (ap not (ne_eqb (w.inflow f) 0 (λ e. omega arith)))

none_out : (first last : Bool) → cond first 0 0 + cond last 0 0 ≡ 0
none_out true true = refl
none_out true false = refl
none_out false true = refl
none_out false false = refl

row_laws : (w : RowOf) → AreKernels (row_kernels w)
row_laws w = record {
  same_is = side_is;
  is_same = side_same;
  ghost_once = due_once w.blocks;
  flux_once = λ x. omega arith;
  owned = λ b. owned_by b w.blocks (nat_lt b w.blocks) refl;
  fluxes_need_ghosts = λ f h. h;
  blank_is_none = λ x v h. eqb-true v 0 h;
  nothing_sent = λ x. refl;
  none_calls_not = λ x. le-ltb w.above 0 (omega arith);
  calls_flow_in = above_is w;
  ghosts_read = ends_read w;
  ghosts_of_none = dry w;
  pairs_read = λ b f pairs c d h. refl;
  pairs_of_none = λ b f c h. refl;
  no_flux = λ b f. refl;
  no_sums = λ x. refl;
  no_update = λ b f. refl;
  no_inflow = λ b f. dry_high (b == 0);
  no_outflow = λ b f. none_out (b == 0) (b + 1 == w.blocks);
  no_amount = refl;
  sums_of_none = λ mesh b f has zero none x s. refl;
}

row_zeros : (w : RowOf) → w.above ≡ 0 → w.idle_at ≡ 0 → AreZeroThresholds (row_kernels w)
row_zeros w above idle = record {
  parts = λ x v h. (let l = ltb-false w.above v h in omega arith);
  inflows = λ b f h. (let p = and_parts (b == 0) (not (w.inflow f == 0)) h in let ne : w.inflow f ≡ 0 → ⊥ = eqb-false (w.inflow f) 0 (not-true (w.inflow f == 0) p.1) in
      and_from (b == 0) (nat_lt w.above (w.inflow f)) p.0 (lt-ltb w.above (w.inflow f) (omega arith)));
  cells = λ v h. (let l = ltb-false w.above v h in omega arith);
  idle = λ v h. (let l = leb-true v w.idle_at h in omega arith);
}

pub rows_meet : RowsMeetTheLaws
rows_meet w = (row_laws w, row_zeros w)
