-- Counting, finding and filtering.
use Rattle.std.proofs.Common.{◌≡◌, ℕ, zero, suc, ◌+◌, ◌*◌, ◌<◌, ◌≤◌, ◌==◌, Bool, true, false, cond, ◌&&◌, ◌||◌, inl, inr, Some, None, List, [], ◌∷◌, ◌++◌, length, filter, find, count_by, sum_by, refl, arith, ap, sym, ◌∙◌, zero-add, eq-eqb}
use Rattle.std.specs.List.{list_all, list_any, range_with_len}
use Rattle.std.proofs.lemmas.Bool.{and_from, and_parts, cases_eq, false≢true, false_from_ne_true, ne_eqb, or_left, or_right, true≢false}
use Rattle.std.proofs.lemmas.List.Sums.{sum_by-append, sum_by-cons, sum_by_push}
use Rattle.cycle_rounds.specs.Events.{Letter, put, without}

pub count_cons : {X : Type 0} (q : X → Bool) (x : X) (xs : List X) → count_by q (x ∷ xs) ≡ cond (q x) 1 0 + count_by q xs
count_cons q x xs = sum_by-cons (λ y. cond (q y) 1 0) x xs

pub count_cons_yes : {X : Type 0} (q : X → Bool) (x : X) (xs : List X) → q x ≡ true → count_by q (x ∷ xs) ≡ 1 + count_by q xs
count_cons_yes q x xs e = count_cons q x xs ∙ ap (λ (b : Bool). cond b 1 0 + count_by q xs) e

pub count_cons_no : {X : Type 0} (q : X → Bool) (x : X) (xs : List X) → q x ≡ false → count_by q (x ∷ xs) ≡ count_by q xs
count_cons_no q x xs e = count_cons q x xs ∙ ap (λ (b : Bool). cond b 1 0 + count_by q xs) e ∙ zero-add (count_by q xs)

-- what a test counts for
pub one_if : (b : Bool) → b ≡ true → ◌≡◌ {A = ℕ} (cond b 1 0) 1
one_if b e = ap (λ (v : Bool). cond v 1 0) e

pub none_if : (b : Bool) → b ≡ false → ◌≡◌ {A = ℕ} (cond b 1 0) 0
none_if b e = ap (λ (v : Bool). cond v 1 0) e

pub same_if : (a b : Bool) → a ≡ b → ◌≡◌ {A = ℕ} (cond a 1 0) (cond b 1 0)
same_if a b e = ap (λ (v : Bool). cond v 1 0) e

pub count_append : {X : Type 0} (q : X → Bool) (xs ys : List X) → count_by q (xs ++ ys) ≡ count_by q xs + count_by q ys
count_append q xs ys = sum_by-append (λ y. cond (q y) 1 0) xs ys

pub count_push : {X : Type 0} (q : X → Bool) (xs : List X) (y : X) → count_by q (xs ++ y ∷ []) ≡ count_by q xs + cond (q y) 1 0
count_push q xs y = sum_by_push (λ z. cond (q z) 1 0) xs y

-- one more element, on two sides
both_more : {X : Type 0} (q t : X → Bool) (x y : X) (xs ys : List X) → q x ≡ t y → count_by q xs ≡ count_by t ys → count_by q (x ∷ xs) ≡ count_by t (y ∷ ys)
both_more q t x y xs ys e h = count_cons q x xs ∙ ap (λ (b : Bool). cond b 1 0 + count_by q xs) e ∙ ap (λ n. cond (t y) 1 0 + n) h ∙ sym (count_cons t y ys)

-- two tests with one answer
pub count_same : {X : Type 0} (q t : X → Bool) → ((x : X) → q x ≡ t x) → (xs : List X) → count_by q xs ≡ count_by t xs
count_same q t e [] = refl
count_same q t e (x ∷ xs) = both_more q t x x xs xs (e x) (count_same q t e xs)

-- a filter that keeps all that is counted
count_kept_at : {X : Type 0} (q test : X → Bool) (x : X) (xs : List X) → (q x ≡ true → test x ≡ true) → count_by q (filter test xs) ≡ count_by q xs → (b : Bool) → test x ≡ b → count_by q (cond b (x ∷ filter test xs) (filter test xs)) ≡ count_by q (x ∷ xs)
count_kept_at q test x xs keep again true e = both_more q q x x (filter test xs) xs refl again
count_kept_at q test x xs keep again false e = again ∙ sym (count_cons_no q x xs (false_from_ne_true (q x) (λ h. false≢true (sym e ∙ keep h))))

pub count_kept : {X : Type 0} (q test : X → Bool) → ((x : X) → q x ≡ true → test x ≡ true) → (xs : List X) → count_by q (filter test xs) ≡ count_by q xs
count_kept q test keep [] = refl
count_kept q test keep (x ∷ xs) = count_kept_at q test x xs (keep x) (count_kept q test keep xs) (test x) refl

-- a filter that keeps nothing of what is counted
count_gone_at : {X : Type 0} (q test : X → Bool) (x : X) (xs : List X) → (q x ≡ true → test x ≡ false) → count_by q (filter test xs) ≡ 0 → (b : Bool) → test x ≡ b → count_by q (cond b (x ∷ filter test xs) (filter test xs)) ≡ 0
count_gone_at q test x xs gone again true e = count_cons_no q x (filter test xs) (false_from_ne_true (q x) (λ h. true≢false (sym e ∙ gone h))) ∙ again
count_gone_at q test x xs gone again false e = again

pub count_gone : {X : Type 0} (q test : X → Bool) → ((x : X) → q x ≡ true → test x ≡ false) → (xs : List X) → count_by q (filter test xs) ≡ 0
count_gone q test gone [] = refl
count_gone q test gone (x ∷ xs) = count_gone_at q test x xs (gone x) (count_gone q test gone xs) (test x) refl

-- a filter counts no more
count_filter_at : {X : Type 0} (q test : X → Bool) (x : X) (xs : List X) → count_by q (filter test xs) ≤ count_by q xs → (b : Bool) → count_by q (cond b (x ∷ filter test xs) (filter test xs)) ≤ count_by q (x ∷ xs)
count_filter_at q test x xs again true = let a = count_cons q x (filter test xs) in let b = count_cons q x xs in omega arith
count_filter_at q test x xs again false = let b = count_cons q x xs in omega arith

pub count_filter : {X : Type 0} (q test : X → Bool) (xs : List X) → count_by q (filter test xs) ≤ count_by q xs
count_filter q test [] = omega arith
count_filter q test (x ∷ xs) = count_filter_at q test x xs (count_filter q test xs) (test x)

-- two counts that add up
pub count_add : {X : Type 0} (q t u : X → Bool) → ((x : X) → cond (q x) 1 0 ≡ cond (t x) 1 0 + cond (u x) 1 0) → (xs : List X) → count_by q xs ≡ count_by t xs + count_by u xs
count_add q t u e [] = refl
count_add q t u e (x ∷ xs) = let a = count_cons q x xs in let b = count_cons t x xs in let c = count_cons u x xs in let d = e x in let h = count_add q t u e xs in omega arith

-- what is counted is somewhere, and the other way round
any_count_at : {X : Type 0} (q : X → Bool) (x : X) (xs : List X) → (list_any q xs ≡ true → 1 ≤ count_by q xs) → (b : Bool) → q x ≡ b → (b || list_any q xs) ≡ true → 1 ≤ count_by q (x ∷ xs)
any_count_at q x xs again true e h = let c = count_cons_yes q x xs e in omega arith
any_count_at q x xs again false e h = let c = count_cons_no q x xs e in let a = again h in omega arith

pub any_count : {X : Type 0} (q : X → Bool) (xs : List X) → list_any q xs ≡ true → 1 ≤ count_by q xs
any_count q [] h = absurd (false≢true h)
any_count q (x ∷ xs) h = any_count_at q x xs (any_count q xs) (q x) refl h

count_any_at : {X : Type 0} (q : X → Bool) (x : X) (xs : List X) → (1 ≤ count_by q xs → list_any q xs ≡ true) → (b : Bool) → q x ≡ b → 1 ≤ count_by q (x ∷ xs) → (b || list_any q xs) ≡ true
count_any_at q x xs again true e h = refl
count_any_at q x xs again false e h = let c = count_cons_no q x xs e in again (omega arith)

nothing_counted : 1 ≤ 0 → ⊥
nothing_counted h = omega arith

pub count_any : {X : Type 0} (q : X → Bool) (xs : List X) → 1 ≤ count_by q xs → list_any q xs ≡ true
count_any q [] h = absurd (nothing_counted h)
count_any q (x ∷ xs) h = count_any_at q x xs (count_any q xs) (q x) refl h

pub no_count : {X : Type 0} (q : X → Bool) (xs : List X) → list_any q xs ≡ false → count_by q xs ≡ 0
no_count q xs h = none (count_by q xs) (λ some. true≢false (sym (count_any q xs some) ∙ h))
  where
    none : (n : ℕ) → (1 ≤ n → ⊥) → n ≡ 0
    none zero h = refl
    none (suc n) h = absurd (h (omega arith))

-- what is found
found_at : {X : Type 0} (q : X → Bool) (x : X) (xs : List X) → (list_any q xs ≡ true → (y : X) × (find q xs ≡ Some y) × (q y ≡ true)) → (b : Bool) → q x ≡ b → (b || list_any q xs) ≡ true → (y : X) × (cond b (Some x) (find q xs) ≡ Some y) × (q y ≡ true)
found_at q x xs again true e h = (x, refl, e)
found_at q x xs again false e h = again h

pub found : {X : Type 0} (q : X → Bool) (xs : List X) → list_any q xs ≡ true → (y : X) × (find q xs ≡ Some y) × (q y ≡ true)
found q [] h = absurd (false≢true h)
found q (x ∷ xs) h = found_at q x xs (found q xs) (q x) refl h

-- what all pass, one that is there passes
all_any_at : {X : Type 0} (q t : X → Bool) (x : X) (xs : List X) → q x ≡ true → (list_any t xs ≡ true → (y : X) × (q y ≡ true) × (t y ≡ true)) → (b : Bool) → t x ≡ b → (b || list_any t xs) ≡ true → (y : X) × (q y ≡ true) × (t y ≡ true)
all_any_at q t x xs h again true e k = (x, h, e)
all_any_at q t x xs h again false e k = again k

pub all_any : {X : Type 0} (q t : X → Bool) (xs : List X) → list_all q xs ≡ true → list_any t xs ≡ true → (y : X) × (q y ≡ true) × (t y ≡ true)
all_any q t [] h k = absurd (false≢true k)
all_any q t (x ∷ xs) h k = let a = and_parts (q x) (list_all q xs) h in all_any_at q t x xs a.0 (all_any q t xs a.1) (t x) refl k

-- what each that is there passes, all pass; and what not all pass, one that is there does not
pub all_from : {X : Type 0} (q : X → Bool) (same : X → X → Bool) → ((x : X) → same x x ≡ true) → (xs : List X) → ((x : X) → list_any (same x) xs ≡ true → q x ≡ true) → list_all q xs ≡ true
all_from q same is_same [] h = refl
all_from q same is_same (x ∷ xs) h = and_from (q x) (list_all q xs) (h x (or_left (same x x) (list_any (same x) xs) (is_same x))) (all_from q same is_same xs (λ y k. h y (or_right (same y x) (list_any (same y) xs) k)))

all_fails_at : {X : Type 0} (q : X → Bool) (same : X → X → Bool) → ((x : X) → same x x ≡ true) → (x : X) (xs : List X) → (list_all q xs ≡ false → (y : X) × (q y ≡ false) × (list_any (same y) xs ≡ true)) → (b : Bool) → q x ≡ b → (b && list_all q xs) ≡ false → (y : X) × (q y ≡ false) × (list_any (same y) (x ∷ xs) ≡ true)
all_fails_at q same is_same x xs again false e h = (x, e, or_left (same x x) (list_any (same x) xs) (is_same x))
all_fails_at q same is_same x xs again true e h = let f = again h in (f.0, f.1, or_right (same f.0 x) (list_any (same f.0) xs) f.2)

pub all_fails : {X : Type 0} (q : X → Bool) (same : X → X → Bool) → ((x : X) → same x x ≡ true) → (xs : List X) → list_all q xs ≡ false → (y : X) × (q y ≡ false) × (list_any (same y) xs ≡ true)
all_fails q same is_same [] h = absurd (true≢false h)
all_fails q same is_same (x ∷ xs) h = all_fails_at q same is_same x xs (all_fails q same is_same xs) (q x) refl h

pub all_length : {X : Type 0} (q : X → Bool) (xs : List X) → list_all q xs ≡ true → count_by q xs ≡ length xs
all_length q [] h = refl
all_length q (x ∷ xs) h = let a = and_parts (q x) (list_all q xs) h in let c = count_cons_yes q x xs a.0 in let r = all_length q xs a.1 in omega arith

-- all numbers of a range
pub range_at : (q : ℕ → Bool) (a n : ℕ) → list_all q (range_with_len a n) ≡ true → (i : ℕ) → a ≤ i → i < a + n → q i ≡ true
range_at q a zero h i low high = absurd (nowhere a i low high)
  where
    nowhere : (a i : ℕ) → a ≤ i → i < a + 0 → ⊥
    nowhere a i low high = omega arith
range_at q a (suc n) h i low high =
    let p = and_parts (q a) (list_all q (range_with_len (a + 1) n)) h in
    elim (cases_eq i a) [ inl e ↦ ap q e ∙ p.0 | inr ne ↦ range_at q (a + 1) n p.1 i (omega arith) (omega arith) ]

pub range_from : (q : ℕ → Bool) (a n : ℕ) → ((i : ℕ) → a ≤ i → i < a + n → q i ≡ true) → list_all q (range_with_len a n) ≡ true
range_from q a zero h = refl
range_from q a (suc n) h = and_from (q a) (list_all q (range_with_len (a + 1) n)) (h a (omega arith) (omega arith)) (range_from q (a + 1) n (λ i low high. h i (omega arith) (omega arith)))

range_fails_at : (q : ℕ → Bool) (a n : ℕ) → (list_all q (range_with_len (a + 1) n) ≡ false → (i : ℕ) × (a + 1 ≤ i) × (i < (a + 1) + n) × (q i ≡ false)) → (b : Bool) → q a ≡ b → (b && list_all q (range_with_len (a + 1) n)) ≡ false → (i : ℕ) × (a ≤ i) × (i < a + suc n) × (q i ≡ false)
range_fails_at q a n again false e h = (a, omega arith, omega arith, e)
range_fails_at q a n again true e h = let f = again h in let low = f.1 in let high = f.2 in (f.0, omega arith, omega arith, f.3)

pub range_fails : (q : ℕ → Bool) (a n : ℕ) → list_all q (range_with_len a n) ≡ false → (i : ℕ) × (a ≤ i) × (i < a + n) × (q i ≡ false)
range_fails q a zero h = absurd (true≢false h)
range_fails q a (suc n) h = range_fails_at q a n (range_fails q (a + 1) n) (q a) refl h

-- a sum over a range of which one term changes
pub range_sum_same : (f g : ℕ → ℕ) (a n : ℕ) → ((i : ℕ) → a ≤ i → i < a + n → g i ≡ f i) → sum_by g (range_with_len a n) ≡ sum_by f (range_with_len a n)
range_sum_same f g a zero h = refl
range_sum_same f g a (suc n) h =
    let x = sum_by-cons g a (range_with_len (a + 1) n) in let y = sum_by-cons f a (range_with_len (a + 1) n) in
    let e = h a (omega arith) (omega arith) in
    let r = range_sum_same f g (a + 1) n (λ i low high. h i (omega arith) (omega arith)) in omega arith

pub range_sum_changed : (f g : ℕ → ℕ) (a n i c : ℕ) → a ≤ i → i < a + n → g i ≡ f i + c → ((j : ℕ) → (j ≡ i → ⊥) → g j ≡ f j) → sum_by g (range_with_len a n) ≡ sum_by f (range_with_len a n) + c
range_sum_changed f g a zero i c low high here others = omega arith
range_sum_changed f g a (suc n) i c low high here others =
    let x = sum_by-cons g a (range_with_len (a + 1) n) in let y = sum_by-cons f a (range_with_len (a + 1) n) in
    elim (cases_eq i a) [
      | inl e ↦ (let r = range_sum_same f g (a + 1) n (λ j l h. others j (λ k. omega arith)) in let t : g a ≡ f a + c = ap g (sym e) ∙ here ∙ ap (λ k. f k + c) e in omega arith)
      | inr ne ↦ (let r = range_sum_changed f g (a + 1) n i c (omega arith) (omega arith) here others in let t = others a (λ k. ne (sym k)) in omega arith)
    ]

pub range_sum_le : (f g : ℕ → ℕ) (a n : ℕ) → ((i : ℕ) → a ≤ i → i < a + n → f i ≤ g i) → sum_by f (range_with_len a n) ≤ sum_by g (range_with_len a n)
range_sum_le f g a zero h = omega arith
range_sum_le f g a (suc n) h =
    let x = sum_by-cons g a (range_with_len (a + 1) n) in let y = sum_by-cons f a (range_with_len (a + 1) n) in
    let e = h a (omega arith) (omega arith) in
    let r = range_sum_le f g (a + 1) n (λ i low high. h i (omega arith) (omega arith)) in omega arith

pub range_sum_const : (c a n : ℕ) → sum_by (λ _. c) (range_with_len a n) ≡ n * c
range_sum_const c a zero = omega arith
range_sum_const c a (suc n) = let x = sum_by-cons (λ (_ : ℕ). c) a (range_with_len (a + 1) n) in let r = range_sum_const c (a + 1) n in omega arith

-- a function with another value at one number
pub put_same : {A : Type 0} (f : ℕ → A) (i j : ℕ) (v : A) → j ≡ i → put f i v j ≡ v
put_same f i j v e = ap (λ (b : Bool). cond b v (f j)) (eq-eqb j i e)

pub put_other : {A : Type 0} (f : ℕ → A) (i j : ℕ) (v : A) → (j ≡ i → ⊥) → put f i v j ≡ f j
put_other f i j v ne = ap (λ (b : Bool). cond b v (f j)) (ne_eqb j i ne)

-- without the first letter of a number
without_at : {X P : Type 0} (k : ℕ) (q : Letter X P → Bool) (x l : Letter X P) (ls : List (Letter X P)) → (find (λ (y : Letter X P). y.number == k) ls ≡ Some l → count_by q ls ≡ count_by q (without k ls) + cond (q l) 1 0) →
    (b : Bool) → cond b (Some x) (find (λ (y : Letter X P). y.number == k) ls) ≡ Some l → count_by q (x ∷ ls) ≡ count_by q (cond b ls (x ∷ without k ls)) + cond (q l) 1 0
without_at {X} {P} k q x l ls again true h = let e : x ≡ l = cc in let t = same_if (q x) (q l) (ap q e) in let c = count_cons q x ls in omega arith
without_at k q x l ls again false h = let a = again h in let c = count_cons q x ls in let d = count_cons q x (without k ls) in omega arith

pub count_without : {X P : Type 0} (k : ℕ) (q : Letter X P → Bool) (l : Letter X P) (ls : List (Letter X P)) → find (λ (y : Letter X P). y.number == k) ls ≡ Some l → count_by q ls ≡ count_by q (without k ls) + cond (q l) 1 0
count_without k q l [] h = absurd (differ h)
  where
    differ : None ≡ Some l → ⊥
    differ h = cc
count_without k q l (x ∷ ls) h = without_at k q x l ls (count_without k q l ls) (x.number == k) h

pub length_count : {X : Type 0} (xs : List X) → count_by (λ _. true) xs ≡ length xs
length_count [] = refl
length_count (x ∷ xs) = let c = count_cons (λ _. true) x xs in let r = length_count xs in omega arith
