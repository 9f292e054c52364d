-- The counts that single events keep up tell which lists can go on.
use Rattle.std.proofs.Common.{◌≡◌, ℕ, zero, suc, ◌+◌, ◌/◌, ◌<◌, ◌≤◌, ◌==◌, Bool, true, false, cond, not, ◌&&◌, ◌||◌, inl, inr, nat_lt, nat_le, Option, Some, None, is_some, List, [], ◌∷◌, ◌++◌, length, filter, count_by, sum_by, refl, arith, ap, sym, subst, ◌∙◌, eq-eqb}
use Rattle.std.specs.List.{list_all, list_any, range_with_len}
use Rattle.std.proofs.lemmas.Bool.{and_from, and_parts, and_right, cases_Bool, cases_eq, cases_lt, eqb-true, eqb-false, false≢true, false_from_ne_true, le-leb, lt-leb, ne_eqb, true≢false, true_from_ne_false}
use Rattle.std.proofs.lemmas.List.Sums.{sum_by-cons}
use Rattle.cycle_rounds.specs.Plan.{IsPlan, Plan, all_tasks, is_due, is_reading, round_tasks}
use Rattle.cycle_rounds.specs.Events.{Event, Letter, Machine, State, after, are_legal, begin, delivered, has_come, is_for, is_legal, is_of, is_past, is_ready, left, may_take, put, step}
use Rattle.cycle_rounds.specs.Events.Event.{take, give, deliver}
use Rattle.cycle_rounds.specs.Readiness.{Counts, CountsAreOf, CountsTellTheTruth, come_given, counts_after, counts_along, counts_delivered, due_to, first_counts, first_past, is_last, may_by, past_given, put_at, with_given, with_letter}
use Rattle.cycle_rounds.proofs.Lists.{any_count, count_any, count_cons, count_cons_yes, count_append, count_cons_no, count_gone, count_kept, count_push, found, no_count, none_if, one_if, put_other, put_same, range_sum_changed, all_length, length_count}
use Rattle.cycle_rounds.proofs.Orderly.{Orderly, due_count, for_is, is_for_from, of_is, on_way, own_test, somewhere, stays}
use Rattle.cycle_rounds.proofs.OrderlySteps.{begin_orderly, gives_is}
use Rattle.cycle_rounds.proofs.OrderlyKept.{step_orderly}
use Rattle.cycle_rounds.proofs.Each.{Each, each_any, each_append, each_in}

-- two tests have one answer where each follows from the other
pub same_answer : (a b : Bool) → (a ≡ true → b ≡ true) → (b ≡ true → a ≡ true) → a ≡ b
same_answer true true f g = refl
same_answer true false f g = sym (f refl)
same_answer false true f g = g refl
same_answer false false f g = refl

-- of terms that are at most others, the sums are one exactly where all terms are
sums_part : {X : Type 0} (f g : X → ℕ) (q : X → Bool) → ((x : X) → f x ≤ g x) → ((x : X) → q x ≡ true → f x ≡ g x) → ((x : X) → q x ≡ false → f x < g x) → (xs : List X) →
    (sum_by f xs ≤ sum_by g xs) × (list_all q xs ≡ true → sum_by f xs ≡ sum_by g xs) × (list_all q xs ≡ false → sum_by f xs < sum_by g xs)
sums_part f g q le eq lt [] = (omega arith, λ _. refl, λ e. absurd (true≢false e))
sums_part f g q le eq lt (x ∷ xs) =
    let r = sums_part f g q le eq lt xs in
    let r0 = r.0 in
    let a = sum_by-cons f x xs in let b = sum_by-cons g x xs in let l = le x in
    (omega arith, all_same r.1, all_less r.2 r.1)
  where
    all_same : (list_all q xs ≡ true → sum_by f xs ≡ sum_by g xs) → list_all q (x ∷ xs) ≡ true → sum_by f (x ∷ xs) ≡ sum_by g (x ∷ xs)
    all_same again h = let p = and_parts (q x) (list_all q xs) h in let e = again p.1 in let d = eq x p.0 in let a = sum_by-cons f x xs in let b = sum_by-cons g x xs in omega arith

    all_less : (list_all q xs ≡ false → sum_by f xs < sum_by g xs) → (list_all q xs ≡ true → sum_by f xs ≡ sum_by g xs) → list_all q (x ∷ xs) ≡ false → sum_by f (x ∷ xs) < sum_by g (x ∷ xs)
    all_less less same h = let a = sum_by-cons f x xs in let b = sum_by-cons g x xs in let l = le x in elim (cases_Bool (list_all q xs)) [
      | inl all ↦ (let e = same all in let d = lt x (false_from_ne_true (q x) (λ t. true≢false (sym (and_from (q x) (list_all q xs) t all) ∙ h))) in omega arith)
      | inr some ↦ (let e = less some in omega arith)
    ]

sum_twice : {X : Type 0} (f g h : X → ℕ) → ((x : X) → f x ≡ g x + h x) → (xs : List X) → sum_by f xs ≡ sum_by g xs + sum_by h xs
sum_twice f g h e [] = refl
sum_twice f g h e (x ∷ xs) = let a = sum_by-cons f x xs in let b = sum_by-cons g x xs in let c = sum_by-cons h x xs in let d = e x in let r = sum_twice f g h e xs in omega arith

sum_none : {X : Type 0} (f : X → ℕ) → ((x : X) → f x ≡ 0) → (xs : List X) → sum_by f xs ≡ 0
sum_none f e [] = refl
sum_none f e (x ∷ xs) = let a = sum_by-cons f x xs in let d = e x in let r = sum_none f e xs in omega arith

-- how often a letter stands among those due to a list
none_of : (b c : Bool) → (b && c) ≡ false → ◌≡◌ {A = ℕ} (cond b (cond c 1 0) 0) 0
none_of true c h = ap (λ (v : Bool). cond v 1 0) h
none_of false c h = refl

one_of : (b c d : Bool) → (d ≡ true → b ≡ true) → (d ≡ true → c ≡ true) → (b ≡ true → c ≡ true → d ≡ true) → ◌≡◌ {A = ℕ} (cond b (cond c 1 0) 0) (cond d 1 0)
one_of b c true f g h = ap (λ (v : Bool). cond v (cond c 1 0) 0) (f refl) ∙ ap (λ (v : Bool). cond v 1 0) (g refl)
one_of b c false f g h = none_of b c (false_from_ne_true (b && c) (λ e. let k = and_parts b c e in false≢true (h k.0 k.1)))

-- how many letters of the mail stand for one that is due to a list
abbrev of_list : {X P : Type 0} → Plan X → List (Letter X P) → ℕ → ℕ → X → ℕ
of_list p mail r i x = cond (p.to x == i) (count_by (is_of p r x) mail) 0

abbrev of_letter : {X P : Type 0} → Plan X → Letter X P → ℕ → ℕ → X → ℕ
of_letter p l r i x = cond (p.to x == i) (cond (is_of p r x l) 1 0) 0

sum_same : {X : Type 0} (f g : X → ℕ) → ((x : X) → f x ≡ g x) → (xs : List X) → sum_by f xs ≡ sum_by g xs
sum_same f g e [] = refl
sum_same f g e (x ∷ xs) = let a = sum_by-cons f x xs in let b = sum_by-cons g x xs in let d = e x in let r = sum_same f g e xs in omega arith

one_letter : {X P : Type 0} (p : Plan X) → IsPlan p → (r i : ℕ) (l : Letter X P) → is_due p l.round l.of ≡ true → (b : Bool) → is_for p r i l ≡ b → sum_by (of_letter p l r i) (p.due r) ≡ cond b 1 0
one_letter {X} {P} p plan r i l due true h =
    let f = for_is p r i l h in
    let a = sum_same (of_letter p l r i) (λ x. cond (p.same l.of x) 1 0) (λ x. one_of (p.to x == i) (is_of p r x l) (p.same l.of x)
    (λ e. eq-eqb (p.to x) i (ap p.to (sym (plan.same_is l.of x e)) ∙ f.reader))
    (λ e. and_from (l.round == r) (p.same x l.of) (eq-eqb l.round r f.round) (ap (λ v. p.same x v) (plan.same_is l.of x e) ∙ plan.is_same x))
    (λ _ e. let k = and_parts (l.round == r) (p.same x l.of) e in ap (λ v. p.same l.of v) (plan.same_is x l.of k.1) ∙ plan.is_same l.of)) (p.due r) in
    let b = any_count (p.same l.of) (p.due r) (subst (λ q. is_due p q l.of ≡ true) f.round due) in
    let c = plan.once r l.of in
    omega arith
one_letter {X} {P} p plan r i l due false h = sum_none (of_letter p l r i) (λ x. none_of (p.to x == i) (is_of p r x l) (false_from_ne_true (p.to x == i && is_of p r x l) (λ e.
    let k = and_parts (p.to x == i) (is_of p r x l) e in let o = and_parts (l.round == r) (p.same x l.of) k.1 in
    true≢false (sym (is_for_from p r i l (eqb-true l.round r o.0) (ap p.to (sym (plan.same_is x l.of o.1)) ∙ eqb-true (p.to x) i k.0)) ∙ h)))) (p.due r)

split_of : (b : Bool) (n m k : ℕ) → n ≡ m + k → cond b n 0 ≡ cond b m 0 + cond b k 0
split_of true n m k e = e
split_of false n m k e = refl

-- the letters that came to a list, by what is due to it
come_sum : {X P : Type 0} (p : Plan X) → IsPlan p → (r i : ℕ) (mail : List (Letter X P)) → Each (λ (l : Letter X P). is_due p l.round l.of ≡ true) mail → count_by (is_for p r i) mail ≡ sum_by (of_list p mail r i) (p.due r)
come_sum {X} {P} p plan r i [] h = sym (sum_none (of_list p no_letters r i) (λ x. nothing (p.to x == i)) (p.due r))
  where
    no_letters : List (Letter X P)
    no_letters = []

    nothing : (b : Bool) → ◌≡◌ {A = ℕ} (cond b 0 0) 0
    nothing true = refl
    nothing false = refl
come_sum {X} {P} p plan r i (l ∷ ls) h =
    let a = count_cons (is_for p r i) l ls in
    let b = sum_twice (of_list p (l ∷ ls) r i) (of_letter p l r i) (of_list p ls r i) (λ x. split_of (p.to x == i) (count_by (is_of p r x) (l ∷ ls)) (cond (is_of p r x l) 1 0) (count_by (is_of p r x) ls) (count_cons (is_of p r x) l ls)) (p.due r) in
    let c = one_letter p plan r i l h.0 (is_for p r i l) refl in
    let d = come_sum p plan r i ls h.1 in
    omega arith

cond_most : (b : Bool) (n : ℕ) → n ≤ 1 → cond b n 0 ≤ 1
cond_most true n h = h
cond_most false n h = omega arith

at_most_once : {X L P : Type 0} (p : Plan X) → IsPlan p → (s : State X L P) → Orderly p s → (r : ℕ) (x : X) → count_by (is_of p r x) s.mail ≤ 1
at_most_once p plan s o r x =
    let a = o.place r x in let b = cond_most (on_way p.rounds r (s.given (p.from x)) (s.given (p.to x))) (due_count p r x) (plan.once r x) in omega arith

mail_due : {X L P : Type 0} (p : Plan X) → IsPlan p → (s : State X L P) → Orderly p s → Each (λ (l : Letter X P). is_due p l.round l.of ≡ true) s.mail
mail_due {X} {L} {P} p plan s o = each_in (λ _. Unit {0}) (λ (l : Letter X P). is_due p l.round l.of ≡ true) (λ k l. is_of p k.round k.of l) (own_test p plan) s.mail (λ l h _. (somewhere p s o l.round l.of (let a = any_count (is_of p l.round l.of) s.mail h in omega arith)).due) (each_any s.mail)

of_most : (b : Bool) (n : ℕ) → n ≤ 1 → cond b n 0 ≤ cond b 1 0
of_most true n h = h
of_most false n h = omega arith

of_all : (b c : Bool) (n : ℕ) → n ≤ 1 → (c ≡ true → 1 ≤ n) → (not b || c) ≡ true → cond b n 0 ≡ cond b 1 0
of_all true c n h k e = let l = k e in omega arith
of_all false c n h k e = refl

of_less : (b c : Bool) (n : ℕ) → (c ≡ false → n ≡ 0) → (not b || c) ≡ false → cond b n 0 < cond b 1 0
of_less true c n k e = let l = k e in omega arith
of_less false c n k e = absurd (true≢false e)

sums_most : {X : Type 0} (f g : X → ℕ) → ((x : X) → f x ≤ g x) → (xs : List X) → sum_by f xs ≤ sum_by g xs
sums_most f g h [] = omega arith
sums_most f g h (x ∷ xs) = let a = sum_by-cons f x xs in let b = sum_by-cons g x xs in let l = h x in let r = sums_most f g h xs in omega arith

wire_due : {X L P : Type 0} (p : Plan X) → IsPlan p → (s : State X L P) → Orderly p s → Each (λ (l : Letter X P). is_due p l.round l.of ≡ true) s.wire
wire_due {X} {L} {P} p plan s o = each_in (λ _. Unit {0}) (λ (l : Letter X P). is_due p l.round l.of ≡ true) (λ k l. is_of p k.round k.of l) (own_test p plan) s.wire (λ l h _. (somewhere p s o l.round l.of (let a = any_count (is_of p l.round l.of) s.wire h in omega arith)).due) (each_any s.wire)

-- no more letters of a round are on the wire to a list, or delivered to it, than are due to it
pub come_most : {X L P : Type 0} (p : Plan X) → IsPlan p → (s : State X L P) → Orderly p s → (r i : ℕ) → count_by (is_for p r i) s.wire + count_by (is_for p r i) s.mail ≤ due_to p i r
come_most {X} {L} {P} p plan s o r i =
    let a = count_append (is_for p r i) s.wire s.mail in
    let b = come_sum p plan r i (s.wire ++ s.mail) (each_append (λ (l : Letter X P). is_due p l.round l.of ≡ true) s.wire s.mail (wire_due p plan s o) (mail_due p plan s o)) in
    let c = sums_most (of_list p (s.wire ++ s.mail) r i) (λ x. cond (p.to x == i) 1 0) (λ x. of_most (p.to x == i) (count_by (is_of p r x) (s.wire ++ s.mail)) (once x)) (p.due r) in
    omega arith
  where
    once : (x : X) → count_by (is_of p r x) (s.wire ++ s.mail) ≤ 1
    once x =
        let a = count_append (is_of p r x) s.wire s.mail in
        let b = o.place r x in
        let c = cond_most (on_way p.rounds r (s.given (p.from x)) (s.given (p.to x))) (due_count p r x) (plan.once r x) in
        omega arith

-- all that is due to a list came exactly where as many came as are due
pub come_by : {X L P : Type 0} (p : Plan X) → IsPlan p → (s : State X L P) → Orderly p s → (r i : ℕ) → has_come p s.mail r i ≡ (count_by (is_for p r i) s.mail == due_to p i r)
come_by p plan s o r i =
    let a = come_sum p plan r i s.mail (mail_due p plan s o) in
    let c = sums_part (of_list p s.mail r i) (λ x. cond (p.to x == i) 1 0) (λ x. not (p.to x == i) || list_any (is_of p r x) s.mail)
    (λ x. of_most (p.to x == i) (count_by (is_of p r x) s.mail) (at_most_once p plan s o r x))
    (λ x. of_all (p.to x == i) (list_any (is_of p r x) s.mail) (count_by (is_of p r x) s.mail) (at_most_once p plan s o r x) (any_count (is_of p r x) s.mail))
    (λ x. of_less (p.to x == i) (list_any (is_of p r x) s.mail) (count_by (is_of p r x) s.mail) (no_count (is_of p r x) s.mail)) (p.due r) in
    same_answer (has_come p s.mail r i) (count_by (is_for p r i) s.mail == due_to p i r)
    (λ h. eq-eqb (count_by (is_for p r i) s.mail) (due_to p i r) (a ∙ c.1 h))
    (λ h. let e = eqb-true (count_by (is_for p r i) s.mail) (due_to p i r) h in true_from_ne_false (has_come p s.mail r i) (λ f. let l = c.2 f in absurd (omega arith)))

length_range : (a n : ℕ) → length (range_with_len a n) ≡ n
length_range a zero = refl
length_range a (suc n) = ap suc (length_range (a + 1) n)

all_by_count : {X : Type 0} (q : X → Bool) (xs : List X) → (count_by q xs ≤ length xs) × (list_all q xs ≡ false → count_by q xs < length xs)
all_by_count q [] = (omega arith, λ e. absurd (true≢false e))
all_by_count q (x ∷ xs) = by (q x) refl (all_by_count q xs)
  where
    by : (b : Bool) → q x ≡ b → (count_by q xs ≤ length xs) × (list_all q xs ≡ false → count_by q xs < length xs) → (count_by q (x ∷ xs) ≤ suc (length xs)) × ((b && list_all q xs) ≡ false → count_by q (x ∷ xs) < suc (length xs))
    by true e r = let c = count_cons_yes q x xs e in let l = r.0 in (omega arith, λ h. let k = r.1 h in omega arith)
    by false e r = let c = count_cons_no q x xs e in let l = r.0 in (omega arith, λ h. omega arith)

-- all lists are past the barrier exactly where as many are as there are lists
past_by : {X L P : Type 0} (p : Plan X) (s : State X L P) → is_past p s ≡ (count_by (λ j. nat_le (round_tasks p) (s.given j)) (range_with_len 0 p.lists) == p.lists)
past_by p s =
    let q = λ (j : ℕ). nat_le (round_tasks p) (s.given j) in
    let a = length_range 0 p.lists in
    let c = all_by_count q (range_with_len 0 p.lists) in
    same_answer (is_past p s) (count_by q (range_with_len 0 p.lists) == p.lists)
    (λ h. eq-eqb (count_by q (range_with_len 0 p.lists)) p.lists (all_length q (range_with_len 0 p.lists) h ∙ a))
    (λ h. let e = eqb-true (count_by q (range_with_len 0 p.lists)) p.lists h in true_from_ne_false (is_past p s) (λ f. let l = c.1 f in absurd (omega arith)))

-- the test by counts is the test of what is legal
may_by_is : {X L P : Type 0} (p : Plan X) → IsPlan p → (s : State X L P) → Orderly p s → (c : Counts) → ((i r : ℕ) → c.come i r ≡ count_by (is_for p r i) s.mail) → c.past ≡ count_by (λ j. nat_le (round_tasks p) (s.given j)) (range_with_len 0 p.lists) → (i : ℕ) → may_by p s c i ≡ may_take p s i
may_by_is p plan s o c come past i =
    let q = s.given i / 3 in
    let a : (c.come i q == due_to p i q) ≡ has_come p s.mail q i = ap (λ n. n == due_to p i q) (come i q) ∙ sym (come_by p plan s o q i) in
    let b : (c.past == p.lists) ≡ is_past p s = ap (λ n. n == p.lists) past ∙ sym (past_by p s) in
    ap (λ (v : Bool). nat_lt i p.lists && (not (is_some (s.out i)) && (nat_lt (s.given i) (all_tasks p) && cond (nat_lt (s.given i) (round_tasks p)) (not (is_reading p (s.given i)) || v) (c.past == p.lists)))) a
    ∙ ap (λ (v : Bool). nat_lt i p.lists && (not (is_some (s.out i)) && (nat_lt (s.given i) (all_tasks p) && cond (nat_lt (s.given i) (round_tasks p)) (not (is_reading p (s.given i)) || has_come p s.mail q i) v))) b

-- what a list's test sees
abbrev ready_at : {X : Type 0} → Plan X → ℕ → Bool → Bool → Bool
ready_at p g come past = cond (nat_lt g (round_tasks p)) (not (is_reading p g) || come) past

abbrev may_at : {X : Type 0} → Plan X → ℕ → Bool → ℕ → Bool → Bool
may_at p i out g ready = nat_lt i p.lists && (not out && (nat_lt g (all_tasks p) && ready))

ready_same : {X : Type 0} (p : Plan X) (g h : ℕ) (come come' past past' : Bool) → g ≡ h → come ≡ come' → past ≡ past' → ready_at p g come past ≡ ready_at p h come' past'
ready_same p g h come come' past past' e f k = ap (λ n. ready_at p n come past) e ∙ ap (λ (v : Bool). ready_at p h v past) f ∙ ap (λ (v : Bool). ready_at p h come' v) k

may_same : {X : Type 0} (p : Plan X) (i : ℕ) (out out' : Bool) (g h : ℕ) (ready ready' : Bool) → out ≡ out' → g ≡ h → ready ≡ ready' → may_at p i out g ready ≡ may_at p i out' h ready'
may_same p i out out' g h ready ready' e f k = ap (λ (v : Bool). may_at p i v g ready) e ∙ ap (λ n. may_at p i out' n ready) f ∙ ap (λ (v : Bool). may_at p i out' h v) k

any_same : {X : Type 0} (q : X → Bool) (xs ys : List X) → count_by q xs ≡ count_by q ys → list_any q xs ≡ list_any q ys
any_same q xs ys e = same_answer (list_any q xs) (list_any q ys)
    (λ h. count_any q ys (let a = any_count q xs h in omega arith))
    (λ h. count_any q xs (let a = any_count q ys h in omega arith))

all_pointwise : {X : Type 0} (q t : X → Bool) → ((x : X) → q x ≡ t x) → (xs : List X) → list_all q xs ≡ list_all t xs
all_pointwise q t e [] = refl
all_pointwise q t e (x ∷ xs) = ap (λ (v : Bool). v && list_all q xs) (e x) ∙ ap (λ (v : Bool). t x && v) (all_pointwise q t e xs)

come_same : {X P : Type 0} (p : Plan X) (mail mail' : List (Letter X P)) (r j : ℕ) → ((x : X) → p.to x ≡ j → count_by (is_of p r x) mail' ≡ count_by (is_of p r x) mail) → has_come p mail' r j ≡ has_come p mail r j
come_same {X} {P} p mail mail' r j h = all_pointwise (λ x. not (p.to x == j) || list_any (is_of p r x) mail') (λ x. not (p.to x == j) || list_any (is_of p r x) mail) (λ x. by x (p.to x == j) refl) (p.due r)
  where
    by : (x : X) (b : Bool) → (p.to x == j) ≡ b → (not b || list_any (is_of p r x) mail') ≡ (not b || list_any (is_of p r x) mail)
    by x true e = any_same (is_of p r x) mail' mail (h x (eqb-true (p.to x) j e))
    by x false e = refl

taken_counts : {X L P : Type 0} (p : Plan X) (m : Machine X L P) (s : State X L P) (c : Counts) (seat i : ℕ) → CountsAreOf p s c → CountsAreOf p (step p m s (take seat i)) (counts_after p m s c (take seat i))
taken_counts {X} {L} {P} p m s c seat i h = record { come = h.come; past = h.past; ready = λ j. by j (j == i) refl }
  where
    by : (j : ℕ) (b : Bool) → (j == i) ≡ b → cond b false (c.ready j) ≡ may_at p j (is_some (cond b (Some seat) (s.out j))) (s.given j) (is_ready p s j)
    by j true e = sym (and_right (nat_lt j p.lists) false refl)
    by j false e = h.ready j

given_come : {X L P : Type 0} (p : Plan X) (s : State X L P) (c : Counts) (i : ℕ) → ((j r : ℕ) → c.come j r ≡ count_by (is_for p r j) s.mail) → (b : Bool) (j r : ℕ) → cond b (put_at c.come i (s.given i / 3) 0) c.come j r ≡ count_by (is_for p r j) (cond b (filter (λ l. not (is_for p (s.given i / 3) i l)) s.mail) s.mail)
given_come p s c i h false j r = h j r
given_come {X} {L} {P} p s c i h true j r = by (j == i && r == q) refl
  where
    q : ℕ
    q = s.given i / 3

    by : (b : Bool) → (j == i && r == s.given i / 3) ≡ b → cond b 0 (c.come j r) ≡ count_by (is_for p r j) (filter (λ l. not (is_for p (s.given i / 3) i l)) s.mail)
    by true e = let k = and_parts (j == i) (r == q) e in sym (count_gone (is_for p r j) (λ l. not (is_for p q i l)) (λ l f. let o = for_is p r j l f in ap not (is_for_from p q i l (o.round ∙ eqb-true r q k.1) (o.reader ∙ eqb-true j i k.0))) s.mail)
    by false e = h j r ∙ sym (count_kept (is_for p r j) (λ l. not (is_for p q i l)) (λ l f. ap not (false_from_ne_true (is_for p q i l) (λ t. let o = for_is p r j l f in let u = for_is p q i l t in
        true≢false (sym (and_from (j == i) (r == q) (eq-eqb j i (sym o.reader ∙ u.reader)) (eq-eqb r q (sym o.round ∙ u.round))) ∙ e)))) s.mail)

given_past : {X L P : Type 0} (p : Plan X) (s : State X L P) (c : Counts) (i : ℕ) → i < p.lists → c.past ≡ count_by (λ j. nat_le (round_tasks p) (s.given j)) (range_with_len 0 p.lists) → past_given p s c i ≡ count_by (λ j. nat_le (round_tasks p) (put s.given i (s.given i + 1) j)) (range_with_len 0 p.lists)
given_past p s c i low h =
    let a = range_sum_changed (λ j. cond (nat_le (round_tasks p) (s.given j)) 1 0) (λ j. cond (nat_le (round_tasks p) (put s.given i (s.given i + 1) j)) 1 0) 0 p.lists i (cond (s.given i + 1 == round_tasks p) 1 0) (omega arith) (omega arith) here others in
    omega arith
  where
    steps : (n r : ℕ) → ◌≡◌ {A = ℕ} (cond (nat_le r (n + 1)) 1 0) (cond (nat_le r n) 1 0 + cond (n + 1 == r) 1 0)
    steps n r = elim (cases_lt (n + 1) r) [
      | inl less ↦ (let a = none_if (nat_le r (n + 1)) (lt-leb r (n + 1) less) in let b = none_if (nat_le r n) (lt-leb r n (omega arith)) in let c = none_if (n + 1 == r) (ne_eqb (n + 1) r (λ e. omega arith)) in omega arith)
      | inr more ↦ elim (cases_eq (n + 1) r) [
        | inl e ↦ (let a = one_if (nat_le r (n + 1)) (le-leb r (n + 1) more) in let b = none_if (nat_le r n) (lt-leb r n (omega arith)) in let c = one_if (n + 1 == r) (eq-eqb (n + 1) r e) in omega arith)
        | inr ne ↦ (let a = one_if (nat_le r (n + 1)) (le-leb r (n + 1) more) in let b = one_if (nat_le r n) (le-leb r n (omega arith)) in let c = none_if (n + 1 == r) (ne_eqb (n + 1) r ne) in omega arith)
      ]
    ]

    here : ◌≡◌ {A = ℕ} (cond (nat_le (round_tasks p) (put s.given i (s.given i + 1) i)) 1 0) (cond (nat_le (round_tasks p) (s.given i)) 1 0 + cond (s.given i + 1 == round_tasks p) 1 0)
    here = ap (λ n. cond (nat_le (round_tasks p) n) 1 0) (put_same s.given i i (s.given i + 1) refl) ∙ steps (s.given i) (round_tasks p)

    others : (j : ℕ) → (j ≡ i → ⊥) → ◌≡◌ {A = ℕ} (cond (nat_le (round_tasks p) (put s.given i (s.given i + 1) j)) 1 0) (cond (nat_le (round_tasks p) (s.given j)) 1 0)
    others j ne = ap (λ n. cond (nat_le (round_tasks p) n) 1 0) (put_other s.given i j (s.given i + 1) ne)

left_count_by : {X L P : Type 0} (p : Plan X) → IsPlan p → (s : State X L P) (i j r : ℕ) (x : X) → p.to x ≡ j → (j ≡ i → ⊥) → (b : Bool) → count_by (is_of p r x) (cond b (filter (λ l. not (is_for p (s.given i / 3) i l)) s.mail) s.mail) ≡ count_by (is_of p r x) s.mail
left_count_by p plan s i j r x to ne true = stays p plan (s.given i / 3) i r x s.mail (λ _ f. ne (sym to ∙ f))
left_count_by p plan s i j r x to ne false = refl

-- where the last list does not come past the barrier, the barrier stays as it was
past_stays : {X L P : Type 0} (p : Plan X) (s next : State X L P) (c : Counts) (i : ℕ) → c.past ≡ count_by (λ j. nat_le (round_tasks p) (s.given j)) (range_with_len 0 p.lists) → past_given p s c i ≡ count_by (λ j. nat_le (round_tasks p) (next.given j)) (range_with_len 0 p.lists) → is_last p s c i ≡ false → is_past p next ≡ is_past p s
past_stays p s next c i h k e =
    (past_by p next ∙ ap (λ n. n == p.lists) (sym k)) ∙ by (s.given i + 1 == round_tasks p) refl e ∙ sym (past_by p s ∙ ap (λ n. n == p.lists) (sym h))
  where
    most : past_given p s c i ≤ p.lists
    most = let a = (all_by_count (λ j. nat_le (round_tasks p) (next.given j)) (range_with_len 0 p.lists)).0 in let b = length_range 0 p.lists in omega arith

    by : (b : Bool) → (s.given i + 1 == round_tasks p) ≡ b → (b && past_given p s c i == p.lists) ≡ false → (past_given p s c i == p.lists) ≡ (c.past == p.lists)
    by true f g = let a = one_if (s.given i + 1 == round_tasks p) f in let m = most in let n : past_given p s c i ≡ p.lists → ⊥ = eqb-false (past_given p s c i) p.lists g in
        g ∙ sym (ne_eqb c.past p.lists (λ l. omega arith))
    by false f g = ap (λ n. n == p.lists) (let a = none_if (s.given i + 1 == round_tasks p) f in plus_none (c.past) (cond (s.given i + 1 == round_tasks p) 1 0) a)
      where
        plus_none : (n k : ℕ) → k ≡ 0 → n + k ≡ n
        plus_none n k e = omega arith

given_counts : {X L P : Type 0} (p : Plan X) (m : Machine X L P) → IsPlan p → (s : State X L P) (c : Counts) (seat i : ℕ) → Orderly p (step p m s (give seat i)) → i < p.lists → CountsAreOf p s c → CountsAreOf p (step p m s (give seat i)) (counts_after p m s c (give seat i))
given_counts {X} {L} {P} p m plan s c seat i o low h = record { come = come; past = past; ready = λ j. ready (is_last p s c i) refl j }
  where
    next : State X L P
    next = step p m s (give seat i)

    come : (j r : ℕ) → come_given p s c i j r ≡ count_by (is_for p r j) (left p s i)
    come j r = given_come p s c i h.come (is_reading p (s.given i)) j r

    past : past_given p s c i ≡ count_by (λ j. nat_le (round_tasks p) (put s.given i (s.given i + 1) j)) (range_with_len 0 p.lists)
    past = given_past p s c i low h.past

    tested : (j : ℕ) → may_by p (step p m s (give seat i)) (with_given p s c i) j ≡ may_take p (step p m s (give seat i)) j
    tested j = may_by_is p plan (step p m s (give seat i)) o (with_given p s c i) (given_come p s c i h.come (is_reading p (s.given i))) (given_past p s c i low h.past) j

    other : (j : ℕ) → (j ≡ i → ⊥) → is_last p s c i ≡ false → may_take p (step p m s (give seat i)) j ≡ may_take p s j
    other j ne e =
        let g = put_other s.given i j (s.given i + 1) ne in
        may_same p j (is_some (put s.out i None j)) (is_some (s.out j)) (put s.given i (s.given i + 1) j) (s.given j) (is_ready p (step p m s (give seat i)) j) (is_ready p s j)
        (ap is_some (put_other s.out i j None ne)) g
        (ready_same p (put s.given i (s.given i + 1) j) (s.given j) (has_come p (left p s i) (put s.given i (s.given i + 1) j / 3) j) (has_come p s.mail (s.given j / 3) j) (is_past p (step p m s (give seat i))) (is_past p s) g
        (ap (λ n. has_come p (left p s i) (n / 3) j) g ∙ come_same p s.mail (left p s i) (s.given j / 3) j (λ x to. left_count_by p plan s i j (s.given j / 3) x to ne (is_reading p (s.given i))))
        (past_stays p s (step p m s (give seat i)) c i h.past (given_past p s c i low h.past) e))

    one : (j : ℕ) → is_last p s c i ≡ false → (b : Bool) → (j == i) ≡ b → cond b (may_by p (step p m s (give seat i)) (with_given p s c i) i) (c.ready j) ≡ may_take p (step p m s (give seat i)) j
    one j e true f = ap (may_by p (step p m s (give seat i)) (with_given p s c i)) (sym (eqb-true j i f)) ∙ tested j
    one j e false f = h.ready j ∙ sym (other j (eqb-false j i f) e)

    ready : (b : Bool) → is_last p s c i ≡ b → (j : ℕ) → cond b (may_by p (step p m s (give seat i)) (with_given p s c i)) (put c.ready i (may_by p (step p m s (give seat i)) (with_given p s c i) i)) j ≡ may_take p (step p m s (give seat i)) j
    ready true e j = tested j
    ready false e j = one j e (j == i) refl

more_by : (b d : Bool) (n m : ℕ) → b ≡ d → n ≡ m → cond b (n + 1) n ≡ m + cond d 1 0
more_by true true n m e f = omega arith
more_by false false n m e f = omega arith
more_by true false n m e f = absurd (true≢false e)
more_by false true n m e f = absurd (false≢true e)

delivered_counts : {X L P : Type 0} (p : Plan X) (m : Machine X L P) → IsPlan p → (s : State X L P) (c : Counts) (k : ℕ) (l : Letter X P) → Orderly p (delivered p m s k (Some l)) → CountsAreOf p s c → CountsAreOf p (delivered p m s k (Some l)) (counts_delivered p s c (Some l))
delivered_counts {X} {L} {P} p m plan s c k l o h = record { come = come; past = h.past; ready = λ j. ready j (j == p.to l.of) refl }
  where
    at_place : (j r : ℕ) → (j == p.to l.of && r == l.round) ≡ is_for p r j l
    at_place j r = same_answer (j == p.to l.of && r == l.round) (is_for p r j l)
        (λ e. let a = and_parts (j == p.to l.of) (r == l.round) e in is_for_from p r j l (sym (eqb-true r l.round a.1)) (sym (eqb-true j (p.to l.of) a.0)))
        (λ e. let f = for_is p r j l e in and_from (j == p.to l.of) (r == l.round) (eq-eqb j (p.to l.of) (sym f.reader)) (eq-eqb r l.round (sym f.round)))

    more : (j r : ℕ) (b : Bool) → (j == p.to l.of && r == l.round) ≡ b → cond b (c.come (p.to l.of) l.round + 1) (c.come j r) ≡ cond b (c.come j r + 1) (c.come j r)
    more j r true e = let a = and_parts (j == p.to l.of) (r == l.round) e in ap (λ i. c.come i l.round + 1) (sym (eqb-true j (p.to l.of) a.0)) ∙ ap (λ q. c.come j q + 1) (sym (eqb-true r l.round a.1))
    more j r false e = refl

    come : (j r : ℕ) → (with_letter p c l).come j r ≡ count_by (is_for p r j) (s.mail ++ l ∷ [])
    come j r = more j r (j == p.to l.of && r == l.round) refl ∙ more_by (j == p.to l.of && r == l.round) (is_for p r j l) (c.come j r) (count_by (is_for p r j) s.mail) (at_place j r) (h.come j r) ∙ sym (count_push (is_for p r j) s.mail l)

    tested : (j : ℕ) → may_by p (delivered p m s k (Some l)) (with_letter p c l) j ≡ may_take p (delivered p m s k (Some l)) j
    tested j = may_by_is p plan (delivered p m s k (Some l)) o (with_letter p c l) come h.past j

    other : (j : ℕ) → (j ≡ p.to l.of → ⊥) → may_take p (delivered p m s k (Some l)) j ≡ may_take p s j
    other j ne = may_same p j (is_some (s.out j)) (is_some (s.out j)) (s.given j) (s.given j) (is_ready p (delivered p m s k (Some l)) j) (is_ready p s j) refl refl
        (ready_same p (s.given j) (s.given j) (has_come p (s.mail ++ l ∷ []) (s.given j / 3) j) (has_come p s.mail (s.given j / 3) j) (is_past p s) (is_past p s) refl
        (come_same p s.mail (s.mail ++ l ∷ []) (s.given j / 3) j (λ x to. count_push (is_of p (s.given j / 3) x) s.mail l ∙ no_other x to)) refl)
      where
        plus_none : (n m : ℕ) → m ≡ 0 → n + m ≡ n
        plus_none n m e = omega arith

        no_other : (x : X) → p.to x ≡ j → count_by (is_of p (s.given j / 3) x) s.mail + cond (is_of p (s.given j / 3) x l) 1 0 ≡ count_by (is_of p (s.given j / 3) x) s.mail
        no_other x to = plus_none (count_by (is_of p (s.given j / 3) x) s.mail) (cond (is_of p (s.given j / 3) x l) 1 0) (none_if (is_of p (s.given j / 3) x l) (false_from_ne_true (is_of p (s.given j / 3) x l) (λ e. ne (sym to ∙ ap p.to (of_is p plan (s.given j / 3) x l e).of))))

    ready : (j : ℕ) (b : Bool) → (j == p.to l.of) ≡ b → cond b (may_by p s (with_letter p c l) (p.to l.of)) (c.ready j) ≡ may_take p (delivered p m s k (Some l)) j
    ready j true e = ap (may_by p s (with_letter p c l)) (sym (eqb-true j (p.to l.of) e)) ∙ tested j
    ready j false e = h.ready j ∙ sym (other j (eqb-false j (p.to l.of) e))

step_counts : {X L P : Type 0} (p : Plan X) (m : Machine X L P) → IsPlan p → (s : State X L P) (c : Counts) (e : Event) → Orderly p s → is_legal p s e ≡ true → CountsAreOf p s c → CountsAreOf p (step p m s e) (counts_after p m s c e)
step_counts p m plan s c (take seat i) o legal h = taken_counts p m s c seat i h
step_counts p m plan s c (give seat i) o legal h = given_counts p m plan s c seat i (step_orderly p m plan s (give seat i) o legal) (gives_is p s seat i legal).list h
step_counts {X} {L} {P} p m plan s c (deliver seat k) o legal h =
    let f = found (λ l. l.number == k) s.wire legal in
    let next = step_orderly p m plan s (deliver seat k) o legal in
    subst (λ (v : Option (Letter X P)). CountsAreOf p (delivered p m s k v) (counts_delivered p s c v)) (sym f.1)
    (delivered_counts p m plan s c k f.0 (subst (λ (v : Option (Letter X P)). Orderly p (delivered p m s k v)) f.1 next) h)

after_counts : {X L P : Type 0} (p : Plan X) (m : Machine X L P) → IsPlan p → (s : State X L P) (c : Counts) (events : List Event) → Orderly p s → are_legal p m s events ≡ true → CountsAreOf p s c → CountsAreOf p (after p m s events) (counts_along p m s c events)
after_counts p m plan s c [] o legal h = h
after_counts p m plan s c (e ∷ es) o legal h =
    let a = and_parts (is_legal p s e) (are_legal p m (step p m s e) es) legal in
    after_counts p m plan (step p m s e) (counts_after p m s c e) es (step_orderly p m plan s e o a.0) a.1 (step_counts p m plan s c e o a.0 h)

first_are : {X L P : Type 0} (p : Plan X) (m : Machine X L P) → IsPlan p → CountsAreOf p (begin m) (first_counts p m)
first_are {X} {L} {P} p m plan = record {
  come = λ i r. refl;
  past = by (nat_le (round_tasks p) 0);
  ready = λ i. may_by_is p plan (begin m) (begin_orderly p m) (record { come = λ _ _. 0; past = first_past p; ready = λ _. false }) (λ i r. refl) (by (nat_le (round_tasks p) 0)) i;
}
  where
    none : (xs : List ℕ) → count_by (λ _. false) xs ≡ 0
    none [] = refl
    none (x ∷ xs) = count_cons_no (λ _. false) x xs refl ∙ none xs

    by : (b : Bool) → cond b p.lists 0 ≡ count_by (λ _. b) (range_with_len 0 p.lists)
    by true = sym (length_count (range_with_len 0 p.lists) ∙ length_range 0 p.lists)
    by false = sym (none (range_with_len 0 p.lists))

pub counts_tell : (X L P : Type 0) → CountsTellTheTruth X L P
counts_tell X L P p m events plan legal = after_counts p m plan (begin m) (first_counts p m) events (begin_orderly p m) legal (first_are p m plan)
