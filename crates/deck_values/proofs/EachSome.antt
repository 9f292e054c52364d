-- What each item of a list stands for, one after another.
use Rattle.std.proofs.Common.{◌≡◌, ◌<◌, ◌+◌, ◌++◌, ◌∷◌, [], ℕ, zero, suc, Bool, true, false, cond, eqb, List, length, take, drop, get_or, not, slice_get, Option, Some, None, option_map, refl, sym, ap, ◌∙◌, arith}
use Rattle.std.specs.Prelude.{option_and_then}
use Rattle.std.specs.List.{list_any}
use Rattle.std.specs.Ordering.{nat_cmp, is_eq}
use Rattle.std.specs.BTreeMap.{is_at}
use Rattle.std.proofs.Math.Seq.{drop-cons}
use Rattle.std.proofs.lemmas.Bool.Decides.{nat_tests}
use Rattle.std.specs.BTreeSet.{insert_key}
use Rattle.deck_values.specs.FlagsAndIds.{each_some, rising_after}

record Split {B : Type 0} (a : Option B) (b : Option (List B)) (ys : List B) : Type 0 where
  first : B
  others : List B
  first_is : a ≡ Some first
  others_are : b ≡ Some others
  whole : ys ≡ first ∷ others

split : {B : Type 0} (a : Option B) (b : Option (List B)) (ys : List B) → option_and_then (λ y. option_map (λ zs. y ∷ zs) b) a ≡ Some ys → Split a b ys
split (Some z) (Some zs) ys e = record { first = z; others = zs; first_is = refl; others_are = refl; whole = cc }
split (Some z) None ys e = let h : ⊥ = cc in absurd h
split None b ys e = let h : ⊥ = cc in absurd h

more_suc : {A : Type 0} {B : Type 0} (f : A → Option B) (xs : List A) (i : ℕ) (x : A) (ys : List B) (y : B) → each_some f (take i xs) ≡ Some ys → slice_get xs i ≡ Some x → f x ≡ Some y → each_some f (take (suc i) xs) ≡ Some (ys ++ y ∷ [])
more_suc f [] i x ys y e at h = let no : ⊥ = cc in absurd no
more_suc f (z ∷ zs) zero x ys y e at h = let none : ys ≡ [] = cc in let same : z ≡ x = cc in rw (same, h, none)
more_suc {A} {B} f (z ∷ zs) (suc i) x ys y e at h =
    let s = split (f z) (each_some f (take i zs)) ys e in
    rw (s.first_is, more_suc f zs i x s.others y s.others_are at h) (ap (λ (l : List B). Some (l ++ y ∷ [])) (sym s.whole))

stop_at : {A : Type 0} {B : Type 0} (f : A → Option B) (xs : List A) (i : ℕ) (x : A) (ys : List B) → each_some f (take i xs) ≡ Some ys → slice_get xs i ≡ Some x → f x ≡ None → each_some f xs ≡ None
stop_at f [] i x ys e at h = let no : ⊥ = cc in absurd no
stop_at f (z ∷ zs) zero x ys e at h = let same : z ≡ x = cc in rw (same, h)
stop_at f (z ∷ zs) (suc i) x ys e at h =
    let s = split (f z) (each_some f (take i zs)) ys e in
    rw (s.first_is, stop_at f zs i x s.others s.others_are at h)

not_true : (b : Bool) → true ≡ not b → b ≡ false
not_true true e = cc
not_true false e = refl

not_false : (b : Bool) → false ≡ not b → b ≡ true
not_false true e = refl
not_false false e = cc

-- one more item that stands for something
pub each_some_more : {A : Type 0} {B : Type 0} (f : A → Option B) (xs : List A) (i : ℕ) (x : A) (ys : List B) (y : B) → each_some f (take i xs) ≡ Some ys → slice_get xs i ≡ Some x → Some y ≡ f x → each_some f (take (i + 1) xs) ≡ Some (ys ++ y ∷ [])
each_some_more f xs i x ys y e at h = let q : i + 1 ≡ suc i = omega arith in rw q (more_suc f xs i x ys y e at (sym h))

-- an item that stands for nothing
pub each_some_stop : {A : Type 0} {B : Type 0} (f : A → Option B) (xs : List A) (i : ℕ) (x : A) (ys : List B) → each_some f (take i xs) ≡ Some ys → slice_get xs i ≡ Some x → None ≡ f x → None ≡ each_some f xs
each_some_stop f xs i x ys e at h = sym (stop_at f xs i x ys e at (sym h))

pub ruleset each_some_laws = (each_some_more, each_some_stop)

is_eq_nat : (n m : ℕ) → is_eq (nat_cmp n m) ≡ eqb n m
is_eq_nat n m = grind (arith, nat_tests)

-- the two ways to say that a number is among others
is_among_nat : (n : ℕ) (ms : List ℕ) → list_any (is_at (nat_cmp n)) ms ≡ list_any (λ m. eqb n m) ms
is_among_nat n [] = refl
is_among_nat n (m ∷ ms) = rw (is_eq_nat n m, is_among_nat n ms)

-- the next number is put at its place
pub rising_more : (ids : List ℕ) (i : ℕ) (risen : List ℕ) → i < length ids → rising_after [] ids ≡ rising_after risen (drop i ids) → true ≡ not (list_any (is_at (nat_cmp (get_or ids i 0))) risen) → rising_after [] ids ≡ rising_after (insert_key nat_cmp risen (get_or ids i 0)) (drop (i + 1) ids)
rising_more ids i risen lt e new =
    let n = get_or ids i 0 in
    let fresh : list_any (λ m. eqb n m) risen ≡ false = sym (is_among_nat n risen) ∙ not_true _ new in
    let q : i + 1 ≡ suc i = omega arith in
    e ∙ ap (rising_after risen) (drop-cons ids i 0 lt) ∙ ap (λ (b : Bool). cond b None (rising_after (insert_key nat_cmp risen n) (drop (suc i) ids))) fresh ∙ rw q refl

-- a number that is there already stops the reading
pub rising_stop : (ids : List ℕ) (i : ℕ) (risen : List ℕ) → i < length ids → rising_after [] ids ≡ rising_after risen (drop i ids) → false ≡ not (list_any (is_at (nat_cmp (get_or ids i 0))) risen) → None ≡ rising_after [] ids
rising_stop ids i risen lt e old =
    let n = get_or ids i 0 in
    let there : list_any (λ m. eqb n m) risen ≡ true = sym (is_among_nat n risen) ∙ not_false _ old in
    sym (e ∙ ap (rising_after risen) (drop-cons ids i 0 lt) ∙ ap (λ (b : Bool). cond b None (rising_after (insert_key nat_cmp risen n) (drop (suc i) ids))) there)
