-- Tests of some item of a list.
use Rattle.std.proofs.Common.{◌≡◌, ◌⊎◌, inl, inr, ℕ, zero, suc, ◌+◌, ◌<◌, ◌≤◌, Bool, true, false, ◌||◌, List, [], ◌∷◌, Option, Some, None, refl, arith, ap, ◌∙◌}
use Rattle.std.specs.List.{cons_option, filter_map, list_any, range_with_len}
use Rattle.std.proofs.lemmas.Bool.{cases_eq, false≢true}

-- one of two tests is passed
pub or_cases : (x y : Bool) → (x || y) ≡ true → (x ≡ true) ⊎ (y ≡ true)
or_cases true y h = inl refl
or_cases false y h = inr h

pub or_left : (x y : Bool) → x ≡ true → (x || y) ≡ true
or_left true y h = refl
or_left false y h = absurd (false≢true h)

pub or_right : (x y : Bool) → y ≡ true → (x || y) ≡ true
or_right true y h = refl
or_right false y h = h

-- some number of a range passes
pub any_range-found : (q : ℕ → Bool) (a n : ℕ) → list_any q (range_with_len a n) ≡ true → (k : ℕ) × (a ≤ k) × (k < a + n) × (q k ≡ true)
any_range-found q a zero h = absurd (false≢true h)
any_range-found q a (suc n) h = elim (or_cases (q a) (list_any q (range_with_len (a + 1) n)) h) [
  | inl p ↦ (a, omega arith, omega arith, p)
  | inr p ↦ let (k, low, high, at) = any_range-found q (a + 1) n p in (k, omega arith, omega arith, at)
]

pub any_range-has : (q : ℕ → Bool) (a n k : ℕ) → a ≤ k → k < a + n → q k ≡ true → list_any q (range_with_len a n) ≡ true
any_range-has q a zero k low high at = absurd (omega arith)
any_range-has q a (suc n) k low high at = elim (cases_eq a k) [
  | inl e ↦ or_left (q a) (list_any q (range_with_len (a + 1) n)) (ap q e ∙ at)
  | inr d ↦ or_right (q a) (list_any q (range_with_len (a + 1) n)) (any_range-has q (a + 1) n k (omega arith) (omega arith) at)
]

-- a test of what is there
abbrev pub passes : {X : Type 0} → (X → Bool) → Option X → Bool
passes p None = false
passes p (Some x) = p x

-- some item of a filtered list passes where what some number gives does
pub any-cons_option : {X : Type 0} (p : X → Bool) (o : Option X) (xs : List X) → list_any p (cons_option o xs) ≡ (passes p o || list_any p xs)
any-cons_option p None xs = refl
any-cons_option p (Some x) xs = refl

pub any-filter_map : {X Y : Type 0} (p : Y → Bool) (h : X → Option Y) (xs : List X) → list_any p (filter_map h xs) ≡ list_any (λ x. passes p (h x)) xs
any-filter_map p h [] = refl
any-filter_map p h (x ∷ xs) = any-cons_option p (h x) (filter_map h xs) ∙ ap (λ b. passes p (h x) || b) (any-filter_map p h xs)

-- what passes is there
pub passes-is : {X : Type 0} (p : X → Bool) (o : Option X) → passes p o ≡ true → (x : X) × (o ≡ Some x) × (p x ≡ true)
passes-is p None h = absurd (false≢true h)
passes-is p (Some x) h = (x, refl, h)
