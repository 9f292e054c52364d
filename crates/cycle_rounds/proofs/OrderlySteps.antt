-- Each legal event keeps the order of tasks and letters.
use Rattle.std.proofs.Common.{◌≡◌, ℕ, ◌+◌, ◌*◌, ◌/◌, ◌%◌, ◌<◌, ◌≤◌, ◌==◌, Bool, true, false, cond, not, ◌&&◌, ◌||◌, ◌⊎◌, inl, inr, nat_lt, nat_le, Option, Some, None, is_some, List, ◌++◌, filter, count_by, refl, arith, ap, sym, subst, ◌∙◌, eq-eqb}
use Rattle.std.specs.List.{list_any}
use Rattle.std.proofs.lemmas.Bool.{and_from, and_parts, cases_eq, cases_lt, eqb-true, false≢true, false_from_ne_true, le-ltb, leb-true, lt-ltb, ltb-true, ne_eqb, not-true}
use Rattle.cycle_rounds.specs.Plan.{IsPlan, Plan, all_tasks, is_due, is_reading, is_sending, round_tasks}
use Rattle.cycle_rounds.specs.Events.{Letter, Machine, State, begin, has_come, is_legal, is_of, is_past, is_ready, is_with, letters, may_take, put, step}
use Rattle.cycle_rounds.specs.Events.Event.{take, give}
use Rattle.cycle_rounds.specs.Protocol.{copies}
use Rattle.cycle_rounds.proofs.Lists.{all_any, count_append, count_gone, count_kept, no_count, put_other, put_same, range_at}
use Rattle.cycle_rounds.proofs.Orderly.{Orderly, due_count, is_way, letters_of_others, letters_of_round, no_way, on_way, same_way}

pub begin_orderly : {X L P : Type 0} (p : Plan X) (m : Machine X L P) → Orderly p (begin m)
begin_orderly p m = record {
  fits = λ i. omega arith;
  busy = λ i h. absurd (false≢true h);
  place = λ r x. sym (ap (λ (b : Bool). cond b (due_count p r x) 0) (no_way p.rounds r 0 0 (λ w. let s = w.sent in absurd (omega arith))));
  order = λ r x h d k. absurd (omega arith);
  come = λ r x h d e k. absurd (false≢true k);
  barrier = λ i j h l. absurd (omega arith);
  numbers = λ k. omega arith;
}

-- what a Take needs
pub record Takes {X L P : Type 0} (p : Plan X) (s : State X L P) (i : ℕ) : Type 0 where
  pub list : i < p.lists
  pub free : is_some (s.out i) ≡ false
  pub more : s.given i < all_tasks p
  pub ready : is_ready p s i ≡ true

pub takes_is : {X L P : Type 0} (p : Plan X) (s : State X L P) (i : ℕ) → may_take p s i ≡ true → Takes p s i
takes_is p s i h =
    let a = and_parts (nat_lt i p.lists) (not (is_some (s.out i)) && (nat_lt (s.given i) (all_tasks p) && is_ready p s i)) h in
    let b = and_parts (not (is_some (s.out i))) (nat_lt (s.given i) (all_tasks p) && is_ready p s i) a.1 in
    let c = and_parts (nat_lt (s.given i) (all_tasks p)) (is_ready p s i) b.1 in
    record { list = ltb-true i p.lists a.0; free = not-true (is_some (s.out i)) b.0; more = ltb-true (s.given i) (all_tasks p) c.0; ready = c.1 }

-- the test of a task at the reading of a round
pub reading_at : {X : Type 0} (p : Plan X) (r g : ℕ) → r < p.rounds → g ≡ 3 * r + 1 → is_reading p g ≡ true
reading_at p r g h e = and_from (nat_lt g (round_tasks p)) (g % 3 == 1) (lt-ltb g (round_tasks p) (omega arith)) (eq-eqb (g % 3) 1 (omega arith))

pub round_of : (r g : ℕ) → g ≡ 3 * r + 1 → g / 3 ≡ r
round_of r g e = omega arith

pub ready_read : {X L P : Type 0} (p : Plan X) (s : State X L P) (i r : ℕ) → r < p.rounds → s.given i ≡ 3 * r + 1 → is_ready p s i ≡ true → has_come p s.mail r i ≡ true
ready_read p s i r h e k =
    let low = lt-ltb (s.given i) (round_tasks p) (omega arith) in
    let a = ap (λ (b : Bool). cond b (not (is_reading p (s.given i)) || has_come p s.mail (s.given i / 3) i) (is_past p s)) low in
    let c = ap (λ (b : Bool). not b || has_come p s.mail (s.given i / 3) i) (reading_at p r (s.given i) h e) in
    subst (λ q. has_come p s.mail q i ≡ true) (round_of r (s.given i) e) (sym c ∙ sym a ∙ k)

pub ready_past : {X L P : Type 0} (p : Plan X) (s : State X L P) (i : ℕ) → round_tasks p ≤ s.given i → is_ready p s i ≡ true → (j : ℕ) → j < p.lists → round_tasks p ≤ s.given j
ready_past p s i high k j h =
    let a = ap (λ (b : Bool). cond b (not (is_reading p (s.given i)) || has_come p s.mail (s.given i / 3) i) (is_past p s)) (le-ltb (s.given i) (round_tasks p) high) in
    leb-true (round_tasks p) (s.given j) (range_at (λ j. nat_le (round_tasks p) (s.given j)) 0 p.lists (sym a ∙ k) j (omega arith) (omega arith))

-- all that is due to a list was delivered
pub come_is : {X P : Type 0} (p : Plan X) → IsPlan p → (mail : List (Letter X P)) (r i : ℕ) (x : X) → has_come p mail r i ≡ true → is_due p r x ≡ true → p.to x ≡ i → list_any (is_of p r x) mail ≡ true
come_is p plan mail r i x h due to =
    let f = all_any (λ y. not (p.to y == i) || list_any (is_of p r y) mail) (p.same x) (p.due r) h due in
    let e : x ≡ f.0 = plan.same_is x f.0 f.2 in
    let q : (not (p.to x == i) || list_any (is_of p r x) mail) ≡ true = ap (λ y. not (p.to y == i) || list_any (is_of p r y) mail) e ∙ f.1 in
    sym (ap (λ (b : Bool). not b || list_any (is_of p r x) mail) (eq-eqb (p.to x) i to)) ∙ q

pub take_orderly : {X L P : Type 0} (p : Plan X) (m : Machine X L P) → IsPlan p → (s : State X L P) (seat i : ℕ) → Orderly p s → Takes p s i → Orderly p (step p m s (take seat i))
take_orderly {X} {L} {P} p m plan s seat i o t = record {
  fits = o.fits;
  busy = λ j h. elim (cases_eq j i) [ inl e ↦ (let a = ap s.given e in let b = t.more in omega arith) | inr ne ↦ o.busy j (ap is_some (sym (put_other s.out i j (Some seat) ne)) ∙ h) ];
  place = o.place;
  order = o.order;
  come = λ r x h due e k. elim (cases_eq (p.to x) i) [
    | inl to ↦ come_is p plan s.mail r i x (ready_read p s i r h (sym (ap s.given to) ∙ e) t.ready) due to
    | inr ne ↦ o.come r x h due e (ap is_some (sym (put_other s.out i (p.to x) (Some seat) ne)) ∙ k)
  ];
  barrier = λ a j h l. elim (cases_eq a i) [
    | inl e ↦ ready_past p s i (at_end a e h) t.ready j l
    | inr ne ↦ o.barrier a j (subst (λ (n : Option ℕ). round_tasks p < s.given a + cond (is_some n) 1 0) (put_other s.out i a (Some seat) ne) h) l
  ];
  numbers = o.numbers;
}
  where
    one_at_most : (b : Bool) → cond b 1 0 ≤ 1
    one_at_most true = omega arith
    one_at_most false = omega arith

    at_end : (a : ℕ) → a ≡ i → round_tasks p < s.given a + cond (is_some (put s.out i (Some seat) a)) 1 0 → round_tasks p ≤ s.given i
    at_end a e h = let c = one_at_most (is_some (put s.out i (Some seat) a)) in let d = ap s.given e in omega arith

-- what a Give needs
pub record Gives {X L P : Type 0} (p : Plan X) (s : State X L P) (i : ℕ) : Type 0 where
  pub list : i < p.lists
  pub busy : is_some (s.out i) ≡ true

pub with_is : (seat : ℕ) (o : Option ℕ) → is_with seat o ≡ true → is_some o ≡ true
with_is seat None h = absurd (false≢true h)
with_is seat (Some other) h = refl

pub gives_is : {X L P : Type 0} (p : Plan X) (s : State X L P) (seat i : ℕ) → is_legal p s (give seat i) ≡ true → Gives p s i
gives_is p s seat i h =
    let a = and_parts (nat_lt i p.lists) (is_with seat (s.out i)) h in
    record { list = ltb-true i p.lists a.0; busy = with_is seat (s.out i) a.1 }

-- how far a list is after a Give
pub record Gave {X L P : Type 0} (s : State X L P) (i j : ℕ) : Type 0 where
  pub same : j ≡ i
  pub old : s.given j ≡ s.given i
  pub new : put s.given i (s.given i + 1) j ≡ s.given i + 1

pub record GaveNot {X L P : Type 0} (s : State X L P) (i j : ℕ) : Type 0 where
  pub other : j ≡ i → ⊥
  pub new : put s.given i (s.given i + 1) j ≡ s.given j

pub gave : {X L P : Type 0} (s : State X L P) (i j : ℕ) → Gave s i j ⊎ GaveNot s i j
gave s i j = elim (cases_eq j i) [
  | inl e ↦ inl (record { same = e; old = ap s.given e; new = put_same s.given i j (s.given i + 1) e })
  | inr ne ↦ inr (record { other = ne; new = put_other s.given i j (s.given i + 1) ne })
]

pub no_less : {X L P : Type 0} (s : State X L P) (i j : ℕ) → s.given j ≤ put s.given i (s.given i + 1) j
no_less s i j = elim (gave s i j) [ inl w ↦ (let a = w.old in let b = w.new in omega arith) | inr w ↦ (let b = w.new in omega arith) ]

-- the kinds of tasks
pub record Sends {X : Type 0} (p : Plan X) (g : ℕ) : Type 0 where
  pub round : g / 3 < p.rounds
  pub at : g ≡ 3 * (g / 3)
  pub sending : is_sending p g ≡ true
  pub reading : is_reading p g ≡ false

pub record Reads {X : Type 0} (p : Plan X) (g : ℕ) : Type 0 where
  pub round : g / 3 < p.rounds
  pub at : g ≡ 3 * (g / 3) + 1
  pub sending : is_sending p g ≡ false
  pub reading : is_reading p g ≡ true

pub record Works {X : Type 0} (p : Plan X) (g : ℕ) : Type 0 where
  pub neither : (r : ℕ) → r < p.rounds → (3 * r ≡ g → ⊥) × (3 * r + 1 ≡ g → ⊥)
  pub sending : is_sending p g ≡ false
  pub reading : is_reading p g ≡ false

no_test : (a : Bool) (x y : ℕ) → (a ≡ true → x ≡ y → ⊥) → (a && x == y) ≡ false
no_test a x y h = false_from_ne_true (a && x == y) (λ e. let k = and_parts a (x == y) e in h k.0 (eqb-true x y k.1))

pub kind_of : {X : Type 0} (p : Plan X) (g : ℕ) → Sends p g ⊎ (Reads p g ⊎ Works p g)
kind_of p g = elim (cases_lt g (round_tasks p)) [
  | inr high ↦ inr (inr (record {
    neither = λ r h. (λ e. omega arith, λ e. omega arith);
    sending = no_test (nat_lt g (round_tasks p)) (g % 3) 0 (λ e k. let l = ltb-true g (round_tasks p) e in omega arith);
    reading = no_test (nat_lt g (round_tasks p)) (g % 3) 1 (λ e k. let l = ltb-true g (round_tasks p) e in omega arith);
  }))
  | inl low ↦ elim (cases_eq (g % 3) 0) [
    | inl e ↦ inl (record {
      round = omega arith;
      at = omega arith;
      sending = and_from (nat_lt g (round_tasks p)) (g % 3 == 0) (lt-ltb g (round_tasks p) low) (eq-eqb (g % 3) 0 e);
      reading = no_test (nat_lt g (round_tasks p)) (g % 3) 1 (λ _ k. omega arith);
    })
    | inr ne ↦ elim (cases_eq (g % 3) 1) [
      | inl e ↦ inr (inl (record {
        round = omega arith;
        at = omega arith;
        sending = no_test (nat_lt g (round_tasks p)) (g % 3) 0 (λ _ k. omega arith);
        reading = and_from (nat_lt g (round_tasks p)) (g % 3 == 1) (lt-ltb g (round_tasks p) low) (eq-eqb (g % 3) 1 e);
      }))
      | inr other ↦ inr (inr (record {
        neither = λ r h. (λ k. ne (omega arith), λ k. other (omega arith));
        sending = no_test (nat_lt g (round_tasks p)) (g % 3) 0 (λ _ k. ne k);
        reading = no_test (nat_lt g (round_tasks p)) (g % 3) 1 (λ _ k. other k);
      }))
    ]
  ]
]

abbrev pub way_now : {X L P : Type 0} → Plan X → State X L P → ℕ → X → Bool
way_now p s r x = on_way p.rounds r (s.given (p.from x)) (s.given (p.to x))

abbrev pub way_next : {X L P : Type 0} → Plan X → State X L P → ℕ → ℕ → X → Bool
way_next p s i r x = on_way p.rounds r (put s.given i (s.given i + 1) (p.from x)) (put s.given i (s.given i + 1) (p.to x))

-- a letter stays under way, or not, unless its sending or its reading is what was given
way_stays : {X L P : Type 0} (p : Plan X) (s : State X L P) (i r : ℕ) (x : X) → (r < p.rounds → p.from x ≡ i → 3 * r ≡ s.given i → ⊥) → (r < p.rounds → p.to x ≡ i → 3 * r + 1 ≡ s.given i → ⊥) → way_now p s r x ≡ way_next p s i r x
way_stays p s i r x no_send no_read =
    same_way p.rounds r (s.given (p.from x)) (s.given (p.to x)) (put s.given i (s.given i + 1) (p.from x)) (put s.given i (s.given i + 1) (p.to x))
    (λ w. (let a = no_less s i (p.from x) in let b = w.sent in omega arith, on w.round w.unread))
    (λ w. (back w.round w.sent, let a = no_less s i (p.to x) in let b = w.unread in omega arith))
  where
    on : r < p.rounds → s.given (p.to x) < 3 * r + 2 → put s.given i (s.given i + 1) (p.to x) < 3 * r + 2
    on low h = elim (gave s i (p.to x)) [
      | inl w ↦ (let a = w.old in let b = w.new in let c : 3 * r + 1 ≡ s.given i → ⊥ = no_read low w.same in omega arith)
      | inr w ↦ (let b = w.new in omega arith)
    ]

    back : r < p.rounds → 3 * r < put s.given i (s.given i + 1) (p.from x) → 3 * r < s.given (p.from x)
    back low h = elim (gave s i (p.from x)) [
      | inl w ↦ (let a = w.old in let b = w.new in let c : 3 * r ≡ s.given i → ⊥ = no_send low w.same in omega arith)
      | inr w ↦ (let b = w.new in omega arith)
    ]

count_way : (b c : Bool) (n m : ℕ) → m ≡ cond b n 0 → b ≡ c → m ≡ cond c n 0
count_way b c n m h e = h ∙ ap (λ (v : Bool). cond v n 0) e

pub place_stays : {X L P : Type 0} (p : Plan X) (s : State X L P) (i : ℕ) → Orderly p s → (r : ℕ) (x : X) → (r < p.rounds → p.from x ≡ i → 3 * r ≡ s.given i → ⊥) → (r < p.rounds → p.to x ≡ i → 3 * r + 1 ≡ s.given i → ⊥) → copies p s r x ≡ cond (way_next p s i r x) (due_count p r x) 0
place_stays p s i o r x a b = count_way (way_now p s r x) (way_next p s i r x) (due_count p r x) (copies p s r x) (o.place r x) (way_stays p s i r x a b)

abbrev pub sent_now : {X L P : Type 0} → Plan X → Machine X L P → State X L P → ℕ → List (Letter X P)
sent_now p m s i = letters s.sent (s.given i / 3) (λ y. m.letter (s.given i / 3) y (s.local i)) (filter (λ y. p.from y == i) (p.due (s.given i / 3)))

sent_own : {X L P : Type 0} (p : Plan X) (m : Machine X L P) → IsPlan p → (s : State X L P) (i : ℕ) (x : X) → p.from x ≡ i → count_by (is_of p (s.given i / 3) x) (sent_now p m s i) ≡ due_count p (s.given i / 3) x
sent_own p m plan s i x own =
    letters_of_round p s.sent (s.given i / 3) (λ y. m.letter (s.given i / 3) y (s.local i)) (filter (λ y. p.from y == i) (p.due (s.given i / 3))) x
    ∙ count_kept (p.same x) (λ y. p.from y == i) (λ y h. ap (λ v. p.from v == i) (sym (plan.same_is x y h)) ∙ eq-eqb (p.from x) i own) (p.due (s.given i / 3))

sent_other : {X L P : Type 0} (p : Plan X) (m : Machine X L P) → IsPlan p → (s : State X L P) (i : ℕ) (x : X) → (p.from x ≡ i → ⊥) → count_by (is_of p (s.given i / 3) x) (sent_now p m s i) ≡ 0
sent_other p m plan s i x ne =
    letters_of_round p s.sent (s.given i / 3) (λ y. m.letter (s.given i / 3) y (s.local i)) (filter (λ y. p.from y == i) (p.due (s.given i / 3))) x
    ∙ count_gone (p.same x) (λ y. p.from y == i) (λ y h. ap (λ v. p.from v == i) (sym (plan.same_is x y h)) ∙ ne_eqb (p.from x) i ne) (p.due (s.given i / 3))

sent_before : {X L P : Type 0} (p : Plan X) (m : Machine X L P) (s : State X L P) (i r : ℕ) (x : X) → (s.given i / 3 ≡ r → ⊥) → count_by (is_of p r x) (sent_now p m s i) ≡ 0
sent_before p m s i r x ne = letters_of_others p s.sent (s.given i / 3) (λ y. m.letter (s.given i / 3) y (s.local i)) (filter (λ y. p.from y == i) (p.due (s.given i / 3))) r x ne

added : (a b c d e : ℕ) → a ≡ b + c → b + d ≡ e → c ≡ 0 → a + d ≡ e
added a b c d e h k z = omega arith

-- a due letter whose sending is given was nowhere before, and comes under way
nowhere_before : {X L P : Type 0} (p : Plan X) (s : State X L P) (i : ℕ) → Orderly p s → Sends p (s.given i) → (x : X) → p.from x ≡ i → copies p s (s.given i / 3) x ≡ 0
nowhere_before p s i o k x own = let at = k.at in let b = ap s.given own in
    o.place (s.given i / 3) x ∙ ap (λ (v : Bool). cond v (due_count p (s.given i / 3) x) 0) (no_way p.rounds (s.given i / 3) (s.given (p.from x)) (s.given (p.to x)) (λ w. let a = w.sent in absurd (omega arith)))

unread_yet : {X L P : Type 0} (p : Plan X) (s : State X L P) (i : ℕ) → Orderly p s → Sends p (s.given i) → (x : X) → p.from x ≡ i → is_due p (s.given i / 3) x ≡ true → put s.given i (s.given i + 1) (p.to x) < 3 * (s.given i / 3) + 2
unread_yet p s i o k x own due =
    let at = k.at in let f = ap s.given own in
    elim (gave s i (p.to x)) [
      | inl w ↦ (let b = w.new in omega arith)
      | inr w ↦ (let b = w.new in elim (cases_lt (s.given (p.to x)) (3 * (s.given i / 3) + 2)) [
        | inl low ↦ omega arith
        | inr high ↦ (let c = o.order (s.given i / 3) x k.round due high in absurd (omega arith))
      ])
    ]

due_none : {X : Type 0} (p : Plan X) (r : ℕ) (x : X) (b : Bool) → is_due p r x ≡ false → cond b (due_count p r x) 0 ≡ 0
due_none p r x true e = no_count (p.same x) (p.due r) e
due_none p r x false e = refl

send_own_by : {X L P : Type 0} (p : Plan X) (s : State X L P) (i : ℕ) → Orderly p s → Sends p (s.given i) → (x : X) → p.from x ≡ i → (b : Bool) → is_due p (s.given i / 3) x ≡ b → due_count p (s.given i / 3) x ≡ cond (way_next p s i (s.given i / 3) x) (due_count p (s.given i / 3) x) 0
send_own_by p s i o k x own true due = let at = k.at in let a = put_same s.given i (p.from x) (s.given i + 1) own in
    sym (ap (λ (v : Bool). cond v (due_count p (s.given i / 3) x) 0) (is_way p.rounds (s.given i / 3) (put s.given i (s.given i + 1) (p.from x)) (put s.given i (s.given i + 1) (p.to x)) k.round (omega arith) (unread_yet p s i o k x own due)))
send_own_by p s i o k x own false due = no_count (p.same x) (p.due (s.given i / 3)) due ∙ sym (due_none p (s.given i / 3) x (way_next p s i (s.given i / 3) x) due)

added_new : (a b c d e : ℕ) → a ≡ b + c → b + d ≡ 0 → c ≡ e → a + d ≡ e
added_new a b c d e h k z = omega arith

pub send_place : {X L P : Type 0} (p : Plan X) (m : Machine X L P) → IsPlan p → (s : State X L P) (i : ℕ) → Orderly p s → Sends p (s.given i) → (r : ℕ) (x : X) →
    count_by (is_of p r x) (s.wire ++ sent_now p m s i) + count_by (is_of p r x) s.mail ≡ cond (way_next p s i r x) (due_count p r x) 0
send_place {X} {L} {P} p m plan s i o k r x = elim (cases_eq (s.given i / 3) r) [
  | inl e ↦ subst (λ v. count_by (is_of p v x) (s.wire ++ sent_now p m s i) + count_by (is_of p v x) s.mail ≡ cond (way_next p s i v x) (due_count p v x) 0) e (elim (cases_eq (p.from x) i) [
    | inl own ↦ added_new (count_by (is_of p q x) (s.wire ++ sent_now p m s i)) (count_by (is_of p q x) s.wire) (count_by (is_of p q x) (sent_now p m s i)) (count_by (is_of p q x) s.mail) (cond (way_next p s i q x) (due_count p q x) 0)
        (count_append (is_of p q x) s.wire (sent_now p m s i)) (nowhere_before p s i o k x own) (sent_own p m plan s i x own ∙ send_own_by p s i o k x own (is_due p q x) refl)
    | inr ne ↦ at_rest q (sent_other p m plan s i x ne) (λ low f. absurd (ne f)) (λ low f z. wrong q z)
  ])
  | inr ne ↦ at_rest r (sent_before p m s i r x ne) (λ low f z. ne (third z)) (λ low f z. wrong r z)
]
  where
    q : ℕ
    q = s.given i / 3

    third : 3 * r ≡ s.given i → s.given i / 3 ≡ r
    third z = omega arith

    wrong : (n : ℕ) → 3 * n + 1 ≡ s.given i → ⊥
    wrong n z = let at = k.at in omega arith

    at_rest : (n : ℕ) → count_by (is_of p n x) (sent_now p m s i) ≡ 0 → (n < p.rounds → p.from x ≡ i → 3 * n ≡ s.given i → ⊥) → (n < p.rounds → p.to x ≡ i → 3 * n + 1 ≡ s.given i → ⊥) →
        count_by (is_of p n x) (s.wire ++ sent_now p m s i) + count_by (is_of p n x) s.mail ≡ cond (way_next p s i n x) (due_count p n x) 0
    at_rest n z a b = added (count_by (is_of p n x) (s.wire ++ sent_now p m s i)) (count_by (is_of p n x) s.wire) (count_by (is_of p n x) (sent_now p m s i)) (count_by (is_of p n x) s.mail) (cond (way_next p s i n x) (due_count p n x) 0)
        (count_append (is_of p n x) s.wire (sent_now p m s i)) (place_stays p s i o n x a b) z
