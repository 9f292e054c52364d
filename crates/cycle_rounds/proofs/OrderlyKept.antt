-- Every legal event keeps the order of tasks and letters.
use Rattle.std.proofs.Common.{◌≡◌, ℕ, ◌+◌, ◌*◌, ◌/◌, ◌<◌, ◌≤◌, ◌==◌, Bool, true, false, cond, not, inl, inr, nat_lt, Option, Some, None, is_some, List, [], ◌∷◌, ◌++◌, length, filter, find, count_by, refl, arith, ap, sym, subst, ◌∙◌}
use Rattle.std.specs.List.{list_any}
use Rattle.std.proofs.lemmas.Bool.{and_parts, cases_eq, cases_lt, false≢true}
use Rattle.std.proofs.lemmas.List.{append-nil}
use Rattle.cycle_rounds.specs.Plan.{IsPlan, Plan, is_due, is_reading, is_sending, round_tasks}
use Rattle.cycle_rounds.specs.Events.{Event, IsHistory, Letter, Machine, State, after, are_legal, begin, delivered, is_for, is_legal, is_of, left, posted, put, replay, step, without}
use Rattle.cycle_rounds.specs.Events.Event.{take, give, deliver}
use Rattle.cycle_rounds.specs.Protocol.{copies}
use Rattle.cycle_rounds.proofs.Lists.{any_count, count_any, count_append, count_filter, count_push, count_without, found, put_other, put_same}
use Rattle.cycle_rounds.proofs.Orderly.{Orderly, due_count, leaves, length_letters, more_numbers, no_way, on_way, somewhere, stays}
use Rattle.cycle_rounds.proofs.OrderlySteps.{Gives, Reads, Sends, Works, begin_orderly, gave, gives_is, kind_of, no_less, place_stays, send_place, sent_now, take_orderly, takes_is, way_next}

-- a reading that is given: its letters were delivered, and go
read_way : {X L P : Type 0} (p : Plan X) (s : State X L P) (i : ℕ) → Orderly p s → Gives p s i → Reads p (s.given i) → (x : X) → p.to x ≡ i → is_due p (s.given i / 3) x ≡ true → 1 ≤ count_by (is_of p (s.given i / 3) x) s.mail
read_way p s i o t k x to due =
    let at = k.at in
    any_count (is_of p (s.given i / 3) x) s.mail (o.come (s.given i / 3) x k.round due (ap s.given to ∙ at) (ap (λ j. is_some (s.out j)) to ∙ t.busy))

-- none is left on the wire
wire_empty_by : {X L P : Type 0} (p : Plan X) → IsPlan p → (s : State X L P) (i : ℕ) → Orderly p s → Gives p s i → Reads p (s.given i) → (x : X) → p.to x ≡ i → (b : Bool) → on_way p.rounds (s.given i / 3) (s.given (p.from x)) (s.given (p.to x)) ≡ b → copies p s (s.given i / 3) x ≡ cond b (due_count p (s.given i / 3) x) 0 → count_by (is_of p (s.given i / 3) x) s.wire ≡ 0
wire_empty_by p plan s i o t k x to true e h = elim (cases_lt 0 (due_count p (s.given i / 3) x)) [
  | inl some ↦ (let a = read_way p s i o t k x to (count_any (p.same x) (p.due (s.given i / 3)) some) in let b = plan.once (s.given i / 3) x in omega arith)
  | inr none ↦ omega arith
]
wire_empty_by p plan s i o t k x to false e h = omega arith

wire_empty : {X L P : Type 0} (p : Plan X) → IsPlan p → (s : State X L P) (i : ℕ) → Orderly p s → Gives p s i → Reads p (s.given i) → (x : X) → p.to x ≡ i → count_by (is_of p (s.given i / 3) x) s.wire ≡ 0
wire_empty p plan s i o t k x to = wire_empty_by p plan s i o t k x to (on_way p.rounds (s.given i / 3) (s.given (p.from x)) (s.given (p.to x))) refl (o.place (s.given i / 3) x)

both_zero : (a b c : ℕ) → a ≡ 0 → b ≡ 0 → c ≡ 0 → a + b ≡ c
both_zero a b c h k l = omega arith

same_sum : (a b c d : ℕ) → b ≡ c → a + c ≡ d → a + b ≡ d
same_sum a b c d h k = omega arith

read_place : {X L P : Type 0} (p : Plan X) → IsPlan p → (s : State X L P) (i : ℕ) → Orderly p s → Gives p s i → Reads p (s.given i) → (r : ℕ) (x : X) →
    count_by (is_of p r x) s.wire + count_by (is_of p r x) (filter (λ l. not (is_for p (s.given i / 3) i l)) s.mail) ≡ cond (way_next p s i r x) (due_count p r x) 0
read_place p plan s i o t k r x = elim (cases_eq r (s.given i / 3)) [
  | inl e ↦ elim (cases_eq (p.to x) i) [
    | inl to ↦ subst (λ v. count_by (is_of p v x) s.wire + count_by (is_of p v x) (filter (λ l. not (is_for p q i l)) s.mail) ≡ cond (way_next p s i v x) (due_count p v x) 0) (sym e)
        (both_zero (count_by (is_of p q x) s.wire) (count_by (is_of p q x) (filter (λ l. not (is_for p q i l)) s.mail)) (cond (way_next p s i q x) (due_count p q x) 0)
        (wire_empty p plan s i o t k x to) (leaves p plan q x i s.mail to)
        (ap (λ (v : Bool). cond v (due_count p q x) 0) (no_way p.rounds q (put s.given i (s.given i + 1) (p.from x)) (put s.given i (s.given i + 1) (p.to x)) (λ w. read_now to w.unread))))
    | inr ne ↦ at_rest (λ _ f. ne f)
  ]
  | inr ne ↦ at_rest (λ f _. ne f)
]
  where
    q : ℕ
    q = s.given i / 3

    read_now : p.to x ≡ i → put s.given i (s.given i + 1) (p.to x) < 3 * (s.given i / 3) + 2 → ⊥
    read_now to h = let at = k.at in let a = put_same s.given i (p.to x) (s.given i + 1) to in omega arith

    not_third : (n : ℕ) → 3 * n ≡ s.given i → ⊥
    not_third n e = let at = k.at in omega arith

    third : 3 * r + 1 ≡ s.given i → r ≡ s.given i / 3
    third z = omega arith

    at_rest : (r ≡ s.given i / 3 → p.to x ≡ i → ⊥) → count_by (is_of p r x) s.wire + count_by (is_of p r x) (filter (λ l. not (is_for p (s.given i / 3) i l)) s.mail) ≡ cond (way_next p s i r x) (due_count p r x) 0
    at_rest apart = same_sum (count_by (is_of p r x) s.wire) (count_by (is_of p r x) (filter (λ l. not (is_for p (s.given i / 3) i l)) s.mail)) (count_by (is_of p r x) s.mail) (cond (way_next p s i r x) (due_count p r x) 0)
        (stays p plan (s.given i / 3) i r x s.mail apart) (place_stays p s i o r x (λ low f z. not_third r z) (λ low f z. apart (third z) f))

-- what stands on the wire and in the mail after a Give
pub record Posted {X L P : Type 0} (p : Plan X) (s : State X L P) (i : ℕ) (more mail : List (Letter X P)) : Type 0 where
  pub place : (r : ℕ) (x : X) → count_by (is_of p r x) (s.wire ++ more) + count_by (is_of p r x) mail ≡ cond (way_next p s i r x) (due_count p r x) 0
  pub numbers : (k : ℕ) → count_by (λ l. l.number == k) (s.wire ++ more) + count_by (λ l. l.number == k) mail ≤ cond (nat_lt k (s.sent + length more)) 1 0
  pub kept : (r : ℕ) (x : X) → (p.to x ≡ i → ⊥) → list_any (is_of p r x) s.mail ≡ true → list_any (is_of p r x) mail ≡ true

send_numbers : (a b c d m : ℕ) → d ≡ a + c → (a + b) + c ≤ m → d + b ≤ m
send_numbers a b c d m h k = omega arith

send_posted : {X L P : Type 0} (p : Plan X) (m : Machine X L P) → IsPlan p → (s : State X L P) (i : ℕ) → Orderly p s → Sends p (s.given i) → Posted p s i (sent_now p m s i) s.mail
send_posted {X} {L} {P} p m plan s i o k = record {
  place = send_place p m plan s i o k;
  numbers = λ n. subst (λ v. count_by (λ l. l.number == n) (s.wire ++ sent_now p m s i) + count_by (λ l. l.number == n) s.mail ≤ cond (nat_lt n (s.sent + v)) 1 0) (sym (length_letters s.sent (s.given i / 3) (λ y. m.letter (s.given i / 3) y (s.local i)) from_here))
      (send_numbers (count_by (λ l. l.number == n) s.wire) (count_by (λ l. l.number == n) s.mail) (count_by (λ l. l.number == n) (sent_now p m s i)) (count_by (λ l. l.number == n) (s.wire ++ sent_now p m s i)) (cond (nat_lt n (s.sent + length from_here)) 1 0)
      (count_append (λ l. l.number == n) s.wire (sent_now p m s i))
      (more_numbers s.sent (s.given i / 3) (λ y. m.letter (s.given i / 3) y (s.local i)) from_here n (count_by (λ l. l.number == n) s.wire + count_by (λ l. l.number == n) s.mail) (o.numbers n)));
  kept = λ r x ne h. h;
}
  where
    from_here : List X
    from_here = filter (λ y. p.from y == i) (p.due (s.given i / 3))

less_numbers : (a b d e : ℕ) → d ≤ b → a + b ≤ e → a + d ≤ e
less_numbers a b d e k l = omega arith

no_more : {X L P : Type 0} (p : Plan X) (s : State X L P) (i : ℕ) (mail : List (Letter X P)) →
    ((r : ℕ) (x : X) → count_by (is_of p r x) s.wire + count_by (is_of p r x) mail ≡ cond (way_next p s i r x) (due_count p r x) 0) →
    ((k : ℕ) → count_by (λ l. l.number == k) s.wire + count_by (λ l. l.number == k) mail ≤ cond (nat_lt k s.sent) 1 0) →
    ((r : ℕ) (x : X) → (p.to x ≡ i → ⊥) → list_any (is_of p r x) s.mail ≡ true → list_any (is_of p r x) mail ≡ true) → Posted p s i [] mail
no_more {X} {L} {P} p s i mail a b c = record {
  place = λ r x. subst (λ (w : List (Letter X P)). count_by (is_of p r x) w + count_by (is_of p r x) mail ≡ cond (way_next p s i r x) (due_count p r x) 0) (sym (append-nil s.wire)) (a r x);
  numbers = λ k. subst (λ (w : List (Letter X P)). count_by (λ l. l.number == k) w + count_by (λ l. l.number == k) mail ≤ cond (nat_lt k (s.sent + 0)) 1 0) (sym (append-nil s.wire))
      (subst (λ n. count_by (λ l. l.number == k) s.wire + count_by (λ l. l.number == k) mail ≤ cond (nat_lt k n) 1 0) (plus_nothing s.sent) (b k));
  kept = c;
}
  where
    plus_nothing : (n : ℕ) → n ≡ n + 0
    plus_nothing n = omega arith

read_posted : {X L P : Type 0} (p : Plan X) → IsPlan p → (s : State X L P) (i : ℕ) → Orderly p s → Gives p s i → Reads p (s.given i) → Posted p s i [] (filter (λ l. not (is_for p (s.given i / 3) i l)) s.mail)
read_posted {X} {L} {P} p plan s i o t k = no_more p s i (filter (λ l. not (is_for p (s.given i / 3) i l)) s.mail)
    (read_place p plan s i o t k)
    (λ n. less_numbers (count_by (λ l. l.number == n) s.wire) (count_by (λ l. l.number == n) s.mail) (count_by (λ l. l.number == n) (filter (λ l. not (is_for p (s.given i / 3) i l)) s.mail)) (cond (nat_lt n s.sent) 1 0) (count_filter (λ l. l.number == n) (λ l. not (is_for p (s.given i / 3) i l)) s.mail) (o.numbers n))
    (λ r x ne h. count_any (is_of p r x) (filter (λ l. not (is_for p (s.given i / 3) i l)) s.mail) (subst (λ n. 1 ≤ n) (sym (stays p plan (s.given i / 3) i r x s.mail (λ _ f. ne f))) (any_count (is_of p r x) s.mail h)))

work_posted : {X L P : Type 0} (p : Plan X) (s : State X L P) (i : ℕ) → Orderly p s → Works p (s.given i) → Posted p s i [] s.mail
work_posted p s i o k = no_more p s i s.mail (λ r x. place_stays p s i o r x (λ low f z. (k.neither r low).0 z) (λ low f z. (k.neither r low).1 z)) o.numbers (λ r x ne h. h)

-- in the words of the machine
pick : {A : Type 0} (b : Bool) (x y : A) → b ≡ true → x ≡ cond b x y
pick b x y e = sym (ap (λ (v : Bool). cond v x y) e)

skip : {A : Type 0} (b : Bool) (x y : A) → b ≡ false → y ≡ cond b x y
skip b x y e = sym (ap (λ (v : Bool). cond v x y) e)

as_posted : {X L P : Type 0} (p : Plan X) (m : Machine X L P) (s : State X L P) (i : ℕ) (more mail : List (Letter X P)) → Posted p s i more mail → more ≡ posted p m s i → mail ≡ left p s i → Posted p s i (posted p m s i) (left p s i)
as_posted {X} {L} {P} p m s i more mail h e f = subst (λ (v : List (Letter X P)). Posted p s i (posted p m s i) v) f (subst (λ (v : List (Letter X P)). Posted p s i v mail) e h)

give_posted : {X L P : Type 0} (p : Plan X) (m : Machine X L P) → IsPlan p → (s : State X L P) (i : ℕ) → Orderly p s → Gives p s i → Posted p s i (posted p m s i) (left p s i)
give_posted {X} {L} {P} p m plan s i o t = elim (kind_of p (s.given i)) [
  | inl k ↦ as_posted p m s i (sent_now p m s i) s.mail (send_posted p m plan s i o k) (pick (is_sending p (s.given i)) (sent_now p m s i) [] k.sending) (skip (is_reading p (s.given i)) kept s.mail k.reading)
  | inr (inl k) ↦ as_posted p m s i [] kept (read_posted p plan s i o t k) (skip (is_sending p (s.given i)) (sent_now p m s i) [] k.sending) (pick (is_reading p (s.given i)) kept s.mail k.reading)
  | inr (inr k) ↦ as_posted p m s i [] s.mail (work_posted p s i o k) (skip (is_sending p (s.given i)) (sent_now p m s i) [] k.sending) (skip (is_reading p (s.given i)) kept s.mail k.reading)
]
  where
    kept : List (Letter X P)
    kept = filter (λ l. not (is_for p (s.given i / 3) i l)) s.mail

give_orderly : {X L P : Type 0} (p : Plan X) (m : Machine X L P) → IsPlan p → (s : State X L P) (seat i : ℕ) → Orderly p s → Gives p s i → Orderly p (step p m s (give seat i))
give_orderly {X} {L} {P} p m plan s seat i o t = let h = give_posted p m plan s i o t in record {
  fits = λ j. elim (gave s i j) [ inl w ↦ (let a = w.new in let b = o.busy i t.busy in omega arith) | inr w ↦ (let a = w.new in let b = o.fits j in omega arith) ];
  busy = λ j f. elim (gave s i j) [ inl w ↦ absurd (idle j w.same f) | inr w ↦ (let a = w.new in let b = o.busy j (still j w.other f) in omega arith) ];
  place = h.place;
  order = ordered;
  come = λ r x low due e f. elim (gave s i (p.to x)) [
    | inl w ↦ absurd (idle (p.to x) w.same f)
    | inr w ↦ h.kept r x w.other (o.come r x low due (sym w.new ∙ e) (still (p.to x) w.other f))
  ];
  barrier = past;
  numbers = h.numbers;
}
  where
    idle : (j : ℕ) → j ≡ i → is_some (put s.out i None j) ≡ true → ⊥
    idle j e f = false≢true (sym (ap is_some (put_same s.out i j None e)) ∙ f)

    still : (j : ℕ) → (j ≡ i → ⊥) → is_some (put s.out i None j) ≡ true → is_some (s.out j) ≡ true
    still j ne f = ap is_some (sym (put_other s.out i j None ne)) ∙ f

    sent_first : (r : ℕ) (x : X) → r < p.rounds → is_due p r x ≡ true → p.to x ≡ i → s.given i ≡ 3 * r + 1 → 3 * r < s.given (p.from x)
    sent_first r x low due to e =
        let a = any_count (is_of p r x) s.mail (o.come r x low due (ap s.given to ∙ e) (ap (λ j. is_some (s.out j)) to ∙ t.busy)) in
        (somewhere p s o r x (omega arith)).way.sent

    ordered : (r : ℕ) (x : X) → r < p.rounds → is_due p r x ≡ true → 3 * r + 2 ≤ put s.given i (s.given i + 1) (p.to x) → 3 * r < put s.given i (s.given i + 1) (p.from x)
    ordered r x low due h = let mono = no_less s i (p.from x) in elim (cases_lt (s.given (p.to x)) (3 * r + 2)) [
      | inr high ↦ (let a = o.order r x low due high in omega arith)
      | inl less ↦ elim (gave s i (p.to x)) [
        | inl w ↦ (let b = w.old in let c = w.new in let a = sent_first r x low due w.same (omega arith) in omega arith)
        | inr w ↦ (let c = w.new in absurd (omega arith))
      ]
    ]

    no_lease : (a : ℕ) → a ≡ i → ◌≡◌ {A = ℕ} (cond (is_some (put s.out i None a)) 1 0) 0
    no_lease a e = ap (λ (v : Option ℕ). cond (is_some v) 1 0) (put_same s.out i a None e)

    leased : ◌≡◌ {A = ℕ} (cond (is_some (s.out i)) 1 0) 1
    leased = ap (λ (v : Bool). cond v 1 0) t.busy

    same_lease : (a : ℕ) → (a ≡ i → ⊥) → ◌≡◌ {A = ℕ} (cond (is_some (put s.out i None a)) 1 0) (cond (is_some (s.out a)) 1 0)
    same_lease a ne = ap (λ (v : Option ℕ). cond (is_some v) 1 0) (put_other s.out i a None ne)

    past : (a j : ℕ) → round_tasks p < put s.given i (s.given i + 1) a + cond (is_some (put s.out i None a)) 1 0 → j < p.lists → round_tasks p ≤ put s.given i (s.given i + 1) j
    past a j h l = let mono = no_less s i j in elim (gave s i a) [
      | inl w ↦ (let b = w.new in let c = no_lease a w.same in let d = leased in let e = o.barrier i j (omega arith) l in omega arith)
      | inr w ↦ (let b = w.new in let c = same_lease a w.other in let e = o.barrier a j (omega arith) l in omega arith)
    ]

-- a letter that is delivered
move_count : (a b c d e : ℕ) → a ≡ b + c → d ≡ e + c → a + e ≡ b + d
move_count a b c d e h k = omega arith

moved : {X L P : Type 0} (p : Plan X) (m : Machine X L P) (s : State X L P) (k : ℕ) (l : Letter X P) → find (λ y. y.number == k) s.wire ≡ Some l → (q : Letter X P → Bool) →
    count_by q s.wire + count_by q s.mail ≡ count_by q (without k s.wire) + count_by q (s.mail ++ l ∷ [])
moved p m s k l e q = move_count (count_by q s.wire) (count_by q (without k s.wire)) (cond (q l) 1 0) (count_by q (s.mail ++ l ∷ [])) (count_by q s.mail) (count_without k q l s.wire e) (count_push q s.mail l)

pub push_any : {X : Type 0} (q : X → Bool) (xs : List X) (y : X) → list_any q xs ≡ true → list_any q (xs ++ y ∷ []) ≡ true
push_any q xs y h = count_any q (xs ++ y ∷ []) (let a = any_count q xs h in let b = count_push q xs y in omega arith)

deliver_orderly : {X L P : Type 0} (p : Plan X) (m : Machine X L P) (s : State X L P) (k : ℕ) (l : Letter X P) → Orderly p s → find (λ y. y.number == k) s.wire ≡ Some l → Orderly p (delivered p m s k (Some l))
deliver_orderly p m s k l o e = record {
  fits = o.fits;
  busy = o.busy;
  place = λ r x. sym (moved p m s k l e (is_of p r x)) ∙ o.place r x;
  order = o.order;
  come = λ r x low due f h. push_any (is_of p r x) s.mail l (o.come r x low due f h);
  barrier = o.barrier;
  numbers = λ n. subst (λ v. v ≤ cond (nat_lt n s.sent) 1 0) (moved p m s k l e (λ y. y.number == n)) (o.numbers n);
}

pub step_orderly : {X L P : Type 0} (p : Plan X) (m : Machine X L P) → IsPlan p → (s : State X L P) (e : Event) → Orderly p s → is_legal p s e ≡ true → Orderly p (step p m s e)
step_orderly p m plan s (take seat i) o h = take_orderly p m plan s seat i o (takes_is p s i h)
step_orderly p m plan s (give seat i) o h = give_orderly p m plan s seat i o (gives_is p s seat i h)
step_orderly {X} {L} {P} p m plan s (deliver seat k) o h = let f = found (λ l. l.number == k) s.wire h in
    subst (λ (v : Option (Letter X P)). Orderly p (delivered p m s k v)) (sym f.1) (deliver_orderly p m s k f.0 o f.1)

pub after_orderly : {X L P : Type 0} (p : Plan X) (m : Machine X L P) → IsPlan p → (s : State X L P) (events : List Event) → Orderly p s → are_legal p m s events ≡ true → Orderly p (after p m s events)
after_orderly p m plan s [] o h = o
after_orderly p m plan s (e ∷ es) o h = let a = and_parts (is_legal p s e) (are_legal p m (step p m s e) es) h in after_orderly p m plan (step p m s e) es (step_orderly p m plan s e o a.0) a.1

pub replay_orderly : {X L P : Type 0} (p : Plan X) (m : Machine X L P) → IsPlan p → (events : List Event) → IsHistory p m events → Orderly p (replay p m events)
replay_orderly p m plan events h = after_orderly p m plan (begin m) events (begin_orderly p m) h
