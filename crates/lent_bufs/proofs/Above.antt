-- Whether some number of a list is above a threshold.
use Rattle.std.proofs.Common.{◌≡◌, ℕ, zero, suc, ◌+◌, ◌-◌, ◌*◌, ◌<◌, ◌≤◌, Bool, true, false, ◌&&◌, ◌||◌, nat_le, nat_lt, List, [], ◌∷◌, length, refl, arith, ap, subst, sym, ◌∙◌, slice_index, inl, inr}
use Rattle.std.specs.List.{list_all}
use Rattle.std.proofs.lemmas.Bool.{and_parts, cases_lt, false≢true, le-ltb, lt-ltb}
use Rattle.std.proofs.lemmas.Bool.Decides.{nat_tests}
use Rattle.mesh_rules.specs.Mask.{some_above}
use Rattle.sparse_pool.specs.Idle.{idle}

le_by : (x t : ℕ) → nat_le x t ≡ true → x ≤ t
le_by x t e = grind (arith, nat_tests)

lt_by : (x t : ℕ) → nat_le x t ≡ false → t < x
lt_by x t e = grind (arith, nat_tests)

pub idle_all : (xs : List ℕ) (t : ℕ) → idle xs t ≡ true → (k : ℕ) → k < length xs → slice_index xs k ≤ t
idle_all [] t e k h = absurd (omega arith)
idle_all (x ∷ xs) t e zero h = le_by x t (and_parts (nat_le x t) (list_all (λ c. nat_le c t) xs) e).0
idle_all (x ∷ xs) t e (suc k) h = idle_all xs t (and_parts (nat_le x t) (list_all (λ c. nat_le c t) xs) e).1 k (omega arith)

-- a number above a threshold, by its place
pub record IsAbove (xs : List ℕ) (t : ℕ) : Type 0 where
  pub at : ℕ
  pub there : at < length xs
  pub above : t < slice_index xs at

pub not_idle : (xs : List ℕ) (t : ℕ) → idle xs t ≡ false → IsAbove xs t
not_idle [] t e = absurd (false≢true (sym e))
not_idle (x ∷ xs) t e = by (nat_le x t) refl e (λ h. not_idle xs t h)
  where
    by : (b : Bool) → nat_le x t ≡ b → (b && list_all (λ c. nat_le c t) xs) ≡ false → (idle xs t ≡ false → IsAbove xs t) → IsAbove (x ∷ xs) t
    by false h e more = record { at = 0; there = omega arith; above = lt_by x t h }
    by true h e more = let r = more e in record { at = suc r.at; there = let s = r.there in omega arith; above = r.above }

pub some_is_above : (xs : List ℕ) (t k : ℕ) → k < length xs → t < slice_index xs k → some_above t xs ≡ true
some_is_above [] t k h a = absurd (omega arith)
some_is_above (x ∷ xs) t zero h a = ap (λ (b : Bool). b || some_above t xs) (lt-ltb t x a)
some_is_above (x ∷ xs) t (suc k) h a = ap (λ (b : Bool). nat_lt t x || b) (some_is_above xs t k (omega arith) a) ∙ by (nat_lt t x)
  where
    by : (b : Bool) → (b || true) ≡ true
    by true = refl
    by false = refl

pub none_is_above : (xs : List ℕ) (t : ℕ) → ((k : ℕ) → k < length xs → slice_index xs k ≤ t) → some_above t xs ≡ false
none_is_above [] t h = refl
none_is_above (x ∷ xs) t h =
    ap (λ (b : Bool). b || some_above t xs) (le-ltb t x (h 0 (omega arith)))
    ∙ none_is_above xs t (λ k small. h (suc k) (omega arith))

row_more : (n row : ℕ) → (row + 1) * n ≡ row * n + n
row_more n row = grind arith

-- one more row is not above a threshold
pub rows_calm : (n row t : ℕ) (own r : List ℕ) → ((k : ℕ) → k < row * n → slice_index own k ≤ t) → length r ≡ n → ((x : ℕ) → x < n → slice_index r x ≡ slice_index own (row * n + x)) →
    idle r t ≡ true → (k : ℕ) → k < (row + 1) * n → slice_index own k ≤ t
rows_calm n row t own r before long same calm k small = elim (cases_lt k (row * n)) [
  | inl low ↦ before k low
  | inr past ↦
      let e = row_more n row in
      let x : ℕ = k - row * n in
      let few : x < n = omega (arith, e, small, past) in
      let back : row * n + x ≡ k = omega (arith, past) in
      subst (λ (v : ℕ). v ≤ t) (same x few ∙ ap (slice_index own) back) (idle_all r t calm x (omega (arith, long, few)))
]
