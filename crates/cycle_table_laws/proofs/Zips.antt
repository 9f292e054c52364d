-- Lists that agree place by place, lists that a test passes, and a list by its places.
use Rattle.std.proofs.Common.{◌≡◌, ◌∙◌, sym, ap, subst, refl, inl, inr, ℕ, zero, suc, ◌+◌, ◌<◌, Bool, true, false, cond, ◌&&◌, List, [], ◌∷◌, ◌++◌, length, filter, slice_index_or, slice_set, arith}
use Rattle.std.specs.List.{AllZip, list_all, range_with_len}
use Rattle.std.proofs.lemmas.Bool.{cases_eq, cases_lt, true≢false}
use Rattle.cycle_rounds.specs.Events.{put}
use Rattle.cycle_rounds.proofs.Lists.{put_other, put_same}
use Rattle.std.proofs.lemmas.List.{get_or-set_other, get_or-set_same, get_or_past, length-set}

pub zip_append : {A B : Type 0} (R : A → B → Type 0) (xs : List A) (ys : List B) (zs : List A) (ws : List B) → AllZip R xs ys → AllZip R zs ws → AllZip R (xs ++ zs) (ys ++ ws)
zip_append R [] [] zs ws h k = k
zip_append R [] (y ∷ ys) zs ws h k = absurd h
zip_append R (x ∷ xs) [] zs ws h k = absurd h
zip_append R (x ∷ xs) (y ∷ ys) zs ws h k = (h.0, zip_append R xs ys zs ws h.1 k)

pub zip_length : {A B : Type 0} (R : A → B → Type 0) (xs : List A) (ys : List B) → AllZip R xs ys → length xs ≡ length ys
zip_length R [] [] h = refl
zip_length R [] (y ∷ ys) h = absurd h
zip_length R (x ∷ xs) [] h = absurd h
zip_length R (x ∷ xs) (y ∷ ys) h = ap suc (zip_length R xs ys h.1)

-- what passes one test passes the other, or none
kept_at : {X : Type 0} (t q : X → Bool) (x : X) (xs : List X) → (t x ≡ true → q x ≡ true) → filter t (filter q xs) ≡ filter t xs → (b : Bool) → q x ≡ b → filter t (cond b (x ∷ filter q xs) (filter q xs)) ≡ filter t (x ∷ xs)
kept_at t q x xs h again true e = by (t x)
  where
    by : (b : Bool) → cond b (x ∷ filter t (filter q xs)) (filter t (filter q xs)) ≡ cond b (x ∷ filter t xs) (filter t xs)
    by true = ap (λ ys. x ∷ ys) again
    by false = again
kept_at t q x xs h again false e = again ∙ sym (by (t x) refl)
  where
    by : (b : Bool) → t x ≡ b → cond b (x ∷ filter t xs) (filter t xs) ≡ filter t xs
    by true f = absurd (true≢false (sym (h f) ∙ e))
    by false f = refl

pub filter_kept : {X : Type 0} (t q : X → Bool) → ((x : X) → t x ≡ true → q x ≡ true) → (xs : List X) → filter t (filter q xs) ≡ filter t xs
filter_kept t q h [] = refl
filter_kept t q h (x ∷ xs) = kept_at t q x xs (h x) (filter_kept t q h xs) (q x) refl

gone_at : {X : Type 0} (t q : X → Bool) (x : X) (xs : List X) → (t x ≡ true → q x ≡ false) → filter t (filter q xs) ≡ [] → (b : Bool) → q x ≡ b → filter t (cond b (x ∷ filter q xs) (filter q xs)) ≡ []
gone_at {X} t q x xs h again true e = by (t x) refl
  where
    by : (b : Bool) → t x ≡ b → ◌≡◌ {A = List X} (cond b (x ∷ filter t (filter q xs)) (filter t (filter q xs))) []
    by true f = absurd (true≢false (sym e ∙ h f))
    by false f = again
gone_at t q x xs h again false e = again

pub filter_gone : {X : Type 0} (t q : X → Bool) → ((x : X) → t x ≡ true → q x ≡ false) → (xs : List X) → filter t (filter q xs) ≡ []
filter_gone t q h [] = refl
filter_gone t q h (x ∷ xs) = gone_at t q x xs (h x) (filter_gone t q h xs) (q x) refl

-- one more at the end
pub filter_push : {X : Type 0} (t : X → Bool) (xs : List X) (y : X) → filter t (xs ++ y ∷ []) ≡ filter t xs ++ cond (t y) (y ∷ []) []
filter_push {X} t [] y = by (t y)
  where
    by : (b : Bool) → ◌≡◌ {A = List X} (cond b (y ∷ []) []) (cond b (y ∷ []) [])
    by b = refl
filter_push {X} t (x ∷ xs) y = by (filter_push t xs y) (t x)
  where
    by : filter t (xs ++ y ∷ []) ≡ filter t xs ++ cond (t y) (y ∷ []) [] → (b : Bool) → cond b (x ∷ filter t (xs ++ y ∷ [])) (filter t (xs ++ y ∷ [])) ≡ cond b (x ∷ filter t xs) (filter t xs) ++ cond (t y) (y ∷ []) []
    by again true = ap (λ zs. x ∷ zs) again
    by again false = again

-- a test of all of a list, by its places
pub all_by_places : {X : Type 0} (q : X → Bool) (t : ℕ → Bool) (xs : List X) (d : X) (a n : ℕ) → length xs ≡ n → ((j : ℕ) → j < n → q (slice_index_or xs j d) ≡ t (a + j)) → list_all q xs ≡ list_all t (range_with_len a n)
all_by_places q t [] d a zero e h = refl
all_by_places q t [] d a (suc n) e h = absurd (omega arith)
all_by_places q t (x ∷ xs) d a zero e h = absurd (omega arith)
all_by_places q t (x ∷ xs) d a (suc n) e h =
    ap (λ (b : Bool). b && list_all q xs) (h 0 (omega arith) ∙ ap t (let z : a + 0 ≡ a = omega arith in z))
    ∙ ap (λ (b : Bool). t a && b) (all_by_places q t xs d (a + 1) n (omega arith) (λ j low. h (suc j) (omega arith) ∙ ap t (let z : a + suc j ≡ (a + 1) + j = omega arith in z)))

-- lists that agree, in other words
pub zip_as : {A B : Type 0} (R : A → B → Type 0) (xs xs' : List A) (ys ys' : List B) → xs' ≡ xs → ys' ≡ ys → AllZip R xs ys → AllZip R xs' ys'
zip_as R xs xs' ys ys' e f h = subst (λ zs. AllZip R zs ys') (sym e) (subst (λ zs. AllZip R xs zs) (sym f) h)

-- what a change at one place leaves as it was
pub same_field : {A B : Type 0} (f : A → B) (xs : List A) (i : ℕ) (y d : A) (j : ℕ) → f y ≡ f (slice_index_or xs i d) → f (slice_index_or (slice_set xs i y) j d) ≡ f (slice_index_or xs j d)
same_field f xs i y d j e = elim (cases_eq j i) [
  | inl same ↦ ap (λ k. f (slice_index_or (slice_set xs i y) k d)) same ∙ here ∙ ap (λ k. f (slice_index_or xs k d)) (sym same)
  | inr ne ↦ ap f (get_or-set_other xs i j y d ne)
]
  where
    here : f (slice_index_or (slice_set xs i y) i d) ≡ f (slice_index_or xs i d)
    here = elim (cases_lt i (length xs)) [
      | inl low ↦ ap f (get_or-set_same xs i y d low) ∙ e
      | inr high ↦ ap f (get_or_past (slice_set xs i y) i d (let l : length (slice_set xs i y) ≡ length xs = length-set xs i y in omega arith) ∙ sym (get_or_past xs i d high))
    ]

-- a function that the places of a list have the values of, once one place changed
pub set_put : {A B : Type 0} (f : A → B) (xs : List A) (i n : ℕ) (y d : A) (s : ℕ → B) (b : B) → i < length xs → f y ≡ b → ((j : ℕ) → j < n → f (slice_index_or xs j d) ≡ s j) → (j : ℕ) → j < n → f (slice_index_or (slice_set xs i y) j d) ≡ put s i b j
set_put f xs i n y d s b h e all j low = elim (cases_eq j i) [
  | inl same ↦ ap (λ k. f (slice_index_or (slice_set xs i y) k d)) same ∙ ap f (get_or-set_same xs i y d h) ∙ e ∙ sym (put_same s i j b same)
  | inr ne ↦ ap f (get_or-set_other xs i j y d ne) ∙ all j low ∙ sym (put_other s i j b ne)
]

pub filter_push_yes : {X : Type 0} (t : X → Bool) (xs : List X) (y : X) → t y ≡ true → filter t (xs ++ y ∷ []) ≡ filter t xs ++ y ∷ []
filter_push_yes {X} t xs y e = filter_push t xs y ∙ ap (λ (b : Bool). filter t xs ++ cond b (y ∷ []) []) e

pub filter_push_no : {X : Type 0} (t : X → Bool) (xs : List X) (y : X) → t y ≡ false → filter t (xs ++ y ∷ []) ≡ filter t xs
filter_push_no {X} t [] y e = ap (λ (b : Bool). cond b (y ∷ []) []) e
filter_push_no {X} t (x ∷ xs) y e = by (filter_push_no t xs y e) (t x)
  where
    by : filter t (xs ++ y ∷ []) ≡ filter t xs → (b : Bool) → cond b (x ∷ filter t (xs ++ y ∷ [])) (filter t (xs ++ y ∷ [])) ≡ cond b (x ∷ filter t xs) (filter t xs)
    by again true = ap (λ zs. x ∷ zs) again
    by again false = again
