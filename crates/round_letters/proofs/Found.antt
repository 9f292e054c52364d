-- Items of a list, and the only one that passes a test.
use Rattle.std.proofs.Common.{◌≡◌, ◌⊎◌, inl, inr, ◌≤◌, Bool, true, false, cond, Some, List, [], ◌∷◌, filter, find, count_by, refl, arith, ap, sym, ◌∙◌}
use Rattle.std.specs.List.{list_any}
use Rattle.std.proofs.lemmas.Bool.{false≢true, or_left, or_right}
use Rattle.cycle_rounds.specs.Events.{Each}
use Rattle.cycle_rounds.proofs.Lists.{any_count, count_cons_no, count_cons_yes}

-- an item of a list
abbrev pub IsIn : {A : Type 0} → A → List A → Type 0
IsIn x [] = ⊥
IsIn x (y ∷ ys) = (x ≡ y) ⊎ IsIn x ys

pub each_from : {A : Type 0} (Holds : A → Type 0) (xs : List A) → ((x : A) → IsIn x xs → Holds x) → Each Holds xs
each_from Holds [] h = tt
each_from Holds (x ∷ xs) h = (h x (inl refl), each_from Holds xs (λ y there. h y (inr there)))

-- what a filter leaves was there, and passes
pub filtered : {A : Type 0} (test : A → Bool) (xs : List A) (x : A) → IsIn x (filter test xs) → IsIn x xs × (test x ≡ true)
filtered {A} test [] x there = absurd there
filtered {A} test (y ∷ ys) x there = by (filtered test ys x) (test y) refl there
  where
    by : (IsIn x (filter test ys) → IsIn x ys × (test x ≡ true)) → (t : Bool) → test y ≡ t → IsIn x (cond t (y ∷ filter test ys) (filter test ys)) → ((x ≡ y) ⊎ IsIn x ys) × (test x ≡ true)
    by later true e (inl same) = (inl same, ap test same ∙ e)
    by later true e (inr more) = let r = later more in (inr r.0, r.1)
    by later false e more = let r = later more in (inr r.0, r.1)

pub any_in : {A : Type 0} (test : A → Bool) (xs : List A) (x : A) → IsIn x xs → test x ≡ true → list_any test xs ≡ true
any_in test [] x there pass = absurd there
any_in test (y ∷ ys) x (inl same) pass = or_left (test y) (list_any test ys) (sym (ap test same) ∙ pass)
any_in test (y ∷ ys) x (inr later) pass = or_right (test y) (list_any test ys) (any_in test ys x later pass)

-- of those that pass a test at most one is there: it is found
pub only_found : {A : Type 0} (test : A → Bool) (xs : List A) (x : A) → IsIn x xs → test x ≡ true → count_by test xs ≤ 1 → find test xs ≡ Some x
only_found {A} test [] x there pass once = absurd there
only_found {A} test (y ∷ ys) x there pass once = by (λ later few. only_found test ys x later pass few) (test y) refl there
  where
    by : (IsIn x ys → count_by test ys ≤ 1 → find test ys ≡ Some x) → (t : Bool) → test y ≡ t → (x ≡ y) ⊎ IsIn x ys → cond t (Some y) (find test ys) ≡ Some x
    by again true e (inl same) = ap (λ (z : A). Some z) (sym same)
    by again true e (inr later) =
        let more = any_count test ys (any_in test ys x later pass) in
        let all = count_cons_yes test y ys e in
        absurd (omega (arith, more, all, once))
    by again false e (inl same) = absurd (false≢true (sym e ∙ sym (ap test same) ∙ pass))
    by again false e (inr later) = again later (let all = count_cons_no test y ys e in omega (arith, all, once))
