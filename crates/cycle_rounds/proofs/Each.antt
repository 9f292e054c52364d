-- What holds of each letter of a list.
use Rattle.std.proofs.Common.{◌≡◌, ℕ, ◌==◌, Bool, true, false, cond, Some, None, List, [], ◌∷◌, ◌++◌, filter, find, sym}
use Rattle.std.specs.List.{list_any}
use Rattle.std.proofs.lemmas.Bool.{or_left, or_right}
use Rattle.cycle_rounds.specs.Events.{Letter, without}
pub use Rattle.cycle_rounds.specs.Events.{Each}

pub each_append : {X : Type 0} (P : X → Type 0) (xs ys : List X) → Each P xs → Each P ys → Each P (xs ++ ys)
each_append P [] ys h k = k
each_append P (x ∷ xs) ys h k = (h.0, each_append P xs ys h.1 k)

each_filter_at : {X : Type 0} (P : X → Type 0) (x : X) (xs : List X) (b : Bool) → P x → Each P xs → Each P (cond b (x ∷ xs) xs)
each_filter_at P x xs true h k = (h, k)
each_filter_at P x xs false h k = k

pub each_filter : {X : Type 0} (P : X → Type 0) (q : X → Bool) (xs : List X) → Each P xs → Each P (filter q xs)
each_filter P q [] h = tt
each_filter P q (x ∷ xs) h = each_filter_at P x (filter q xs) (q x) h.0 (each_filter P q xs h.1)

-- what is shown of each that is there
pub each_in : {X : Type 0} (P Q : X → Type 0) (same : X → X → Bool) → ((x : X) → same x x ≡ true) → (xs : List X) → ((x : X) → list_any (same x) xs ≡ true → P x → Q x) → Each P xs → Each Q xs
each_in P Q same is_same [] f h = tt
each_in P Q same is_same (x ∷ xs) f h = (f x (or_left (same x x) (list_any (same x) xs) (is_same x)) h.0, each_in P Q same is_same xs (λ y k. f y (or_right (same y x) (list_any (same y) xs) k)) h.1)

pub each_any : {X : Type 0} (xs : List X) → Each (λ _. Unit {0}) xs
each_any [] = tt
each_any (x ∷ xs) = (tt, each_any xs)

some_is : {X : Type 0} (x y : X) → Some x ≡ Some y → x ≡ y
some_is x y e = cc

none_is : {X : Type 0} (y : X) → None ≡ Some y → ⊥
none_is y e = cc

each_found_at : {X : Type 0} (P : X → Type 0) (q : X → Bool) (x y : X) (xs : List X) (b : Bool) → P x → (find q xs ≡ Some y → P y) → cond b (Some x) (find q xs) ≡ Some y → P y
each_found_at P q x y xs true h k e = subst_at (some_is x y e) h
  where
    subst_at : x ≡ y → P x → P y
    subst_at e h = rw (sym e) h
each_found_at P q x y xs false h k e = k e

pub each_found : {X : Type 0} (P : X → Type 0) (q : X → Bool) (xs : List X) (y : X) → Each P xs → find q xs ≡ Some y → P y
each_found P q [] y h e = absurd (none_is y e)
each_found P q (x ∷ xs) y h e = each_found_at P q x y xs (q x) h.0 (each_found P q xs y h.1) e

each_without_at : {X P : Type 0} (Q : Letter X P → Type 0) (l : Letter X P) (ls rest : List (Letter X P)) (b : Bool) → Q l → Each Q ls → Each Q rest → Each Q (cond b ls (l ∷ rest))
each_without_at Q l ls rest true h k r = k
each_without_at Q l ls rest false h k r = (h, r)

pub each_without : {X P : Type 0} (Q : Letter X P → Type 0) (k : ℕ) (ls : List (Letter X P)) → Each Q ls → Each Q (without k ls)
each_without Q k [] h = tt
each_without Q k (l ∷ ls) h = each_without_at Q l ls (without k ls) (l.number == k) h.0 h.1 (each_without Q k ls h.1)
