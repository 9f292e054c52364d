-- What the lists and the letters of a machine hold, kept through every legal list of events: what a machine has to supply, and
-- that it then holds in every state that is reached.
use Rattle.std.proofs.Common.{◌≡◌, ℕ, suc, ◌+◌, ◌*◌, ◌/◌, ◌%◌, ◌<◌, ◌≤◌, ◌==◌, Bool, true, false, cond, not, inl, inr, nat_lt, Option, Some, None, is_some, List, [], ◌∷◌, filter, find, count_by, refl, arith, ap, sym, subst, ◌∙◌}
use Rattle.std.specs.List.{list_all, list_any}
use Rattle.std.proofs.lemmas.Bool.{and_parts, cases_eq, eqb-true, false_from_ne_true, and_from, ltb-true, or_left, or_right}
use Rattle.cycle_rounds.specs.Plan.{IsPlan, Plan, all_tasks, is_due, is_reading, is_sending, round_tasks}
use Rattle.cycle_rounds.specs.Events.{Event, IsHistory, Letter, Machine, State, after, are_legal, begin, content_of, delivered, is_for, is_legal, is_of, left, letters, posted, put, reads, replay, step}
use Rattle.cycle_rounds.specs.Events.Event.{take, give, deliver}
use Rattle.cycle_rounds.specs.Protocol.{copies}
use Rattle.cycle_rounds.proofs.Lists.{all_any, any_count, count_any, count_filter, found, put_other, put_same}
use Rattle.cycle_rounds.proofs.Orderly.{Orderly, Somewhere, due_count, of_is, on_way, own_test, somewhere}
use Rattle.cycle_rounds.proofs.OrderlySteps.{Gives, Takes, come_is, gives_is, ready_read, round_of, takes_is, begin_orderly}
use Rattle.cycle_rounds.proofs.OrderlyKept.{step_orderly}
use Rattle.cycle_rounds.proofs.Each.{Each, each_append, each_filter, each_any, each_found, each_in, each_without}

-- what a machine supplies. Good: of a list, how many tasks it has given, whether its next one is out, and what it holds. Came: that
-- a letter of a round came to what its reader holds. Holds: of a letter of a round, what it holds
pub record Carries {X L P : Type 0} (p : Plan X) (m : Machine X L P) (Good : ℕ → ℕ → Bool → L → Type 0) (Came : ℕ → X → L → Type 0) (Holds : ℕ → X → P → Type 0) : Type 0 where
  pub begins : (i : ℕ) → Good i 0 false (m.begin i)
  pub takes : (i g : ℕ) (l : L) → g < all_tasks p → Good i g false l → ((r : ℕ) (x : X) → r < p.rounds → g ≡ 3 * r + 1 → is_due p r x ≡ true → p.to x ≡ i → Came r x l) → Good i g true (m.lease i g l)
  pub gives : (i g : ℕ) (content : X → P) (l : L) → g < all_tasks p → Good i g true l → ((r : ℕ) (x : X) → r < p.rounds → g ≡ 3 * r + 1 → is_due p r x ≡ true → p.to x ≡ i → Holds r x (content x)) → Good i (g + 1) false (m.work i g content l)
  pub sends : (i r : ℕ) (x : X) (l : L) → r < p.rounds → is_due p r x ≡ true → p.from x ≡ i → Good i (3 * r) true l → Holds r x (m.letter r x l)
  pub comes : (g : ℕ) (out : Bool) (r : ℕ) (x : X) (content : P) (l : L) → r < p.rounds → is_due p r x ≡ true → g < 3 * r + 2 → (g ≡ 3 * r + 1 → out ≡ false) → Good (p.to x) g out l → Holds r x content → Good (p.to x) g out (m.arrive r x content l)
  pub came : (r : ℕ) (x : X) (content : P) (l : L) → r < p.rounds → is_due p r x ≡ true → Holds r x content → Came r x (m.arrive r x content l)
  pub still_come : (r : ℕ) (x : X) (l : L) (q : ℕ) (y : X) (content : P) → Came r x l → Came r x (m.arrive q y content l)
  pub still_taken : (r : ℕ) (x : X) (l : L) (g : ℕ) → Came r x l → Came r x (m.lease (p.to x) g l)
  pub still_given : (r : ℕ) (x : X) (l : L) (g : ℕ) (content : X → P) → r < p.rounds → g + 1 < 3 * r + 2 → Came r x l → Came r x (m.work (p.to x) g content l)

-- a letter holds what it has to, and one that was delivered has come
abbrev pub IsTrueLetter : {X P : Type 0} → (ℕ → X → P → Type 0) → Letter X P → Type 0
IsTrueLetter Holds l = Holds l.round l.of l.content

abbrev pub HasCome : {X L P : Type 0} → Plan X → (ℕ → X → L → Type 0) → (ℕ → X → P → Type 0) → (ℕ → L) → Letter X P → Type 0
HasCome p Came Holds local l = Holds l.round l.of l.content × Came l.round l.of (local (p.to l.of))

pub record IsCarried {X L P : Type 0} (p : Plan X) (Good : ℕ → ℕ → Bool → L → Type 0) (Came : ℕ → X → L → Type 0) (Holds : ℕ → X → P → Type 0) (s : State X L P) : Type 0 where
  pub good : (i : ℕ) → Good i (s.given i) (is_some (s.out i)) (s.local i)
  pub wire : Each (IsTrueLetter Holds) s.wire
  pub mail : Each (HasCome p Came Holds s.local) s.mail

-- a list that an event leaves as it is, or changes
good_put : {L : Type 0} (Good : ℕ → ℕ → Bool → L → Type 0) (given : ℕ → ℕ) (out : ℕ → Option ℕ) (local : ℕ → L) (i g : ℕ) (o : Option ℕ) (l : L) → ((j : ℕ) → Good j (given j) (is_some (out j)) (local j)) → Good i g (is_some o) l → (j : ℕ) → Good j (put given i g j) (is_some (put out i o j)) (put local i l j)
good_put {L} Good given out local i g o l h k j = by (j == i) refl
  where
    by : (b : Bool) → (j == i) ≡ b → Good j (cond b g (given j)) (is_some (cond b o (out j))) (cond b l (local j))
    by true e = subst (λ v. Good v g (is_some o) l) (sym (eqb-true j i e)) k
    by false e = h j

-- what a letter came to
came_put : {X L : Type 0} (p : Plan X) (Came : ℕ → X → L → Type 0) (local : ℕ → L) (i : ℕ) (l : L) (r : ℕ) (x : X) → Came r x (local (p.to x)) → (p.to x ≡ i → Came r x (local i) → Came r x l) → Came r x (put local i l (p.to x))
came_put {X} {L} p Came local i l r x h f = by (p.to x == i) refl
  where
    by : (b : Bool) → (p.to x == i) ≡ b → Came r x (cond b l (local (p.to x)))
    by true e = f (eqb-true (p.to x) i e) (subst (λ v. Came r x (local v)) (eqb-true (p.to x) i e) h)
    by false e = h

-- a delivered letter, by its round and what it is about
mail_at : {X L P : Type 0} (p : Plan X) → IsPlan p → (Came : ℕ → X → L → Type 0) (Holds : ℕ → X → P → Type 0) (local : ℕ → L) (mail : List (Letter X P)) → Each (HasCome p Came Holds local) mail → (r : ℕ) (x : X) → list_any (is_of p r x) mail ≡ true → (l : Letter X P) × (find (is_of p r x) mail ≡ Some l) × Holds r x l.content × Came r x (local (p.to x))
mail_at {X} {L} {P} p plan Came Holds local mail each r x h =
    let f = found (is_of p r x) mail h in
    let o = of_is p plan r x f.0 f.2 in
    let e = each_found (HasCome p Came Holds local) (is_of p r x) mail f.0 each f.1 in (
      f.0,
      f.1,
      subst (λ (y : X). Holds r y f.0.content) (sym o.of) (subst (λ q. Holds q f.0.of f.0.content) o.round e.0),
      subst (λ (y : X). Came r y (local (p.to y))) (sym o.of) (subst (λ q. Came q f.0.of (local (p.to f.0.of))) o.round e.1),
    )

begin_carried : {X L P : Type 0} (p : Plan X) (m : Machine X L P) (Good : ℕ → ℕ → Bool → L → Type 0) (Came : ℕ → X → L → Type 0) (Holds : ℕ → X → P → Type 0) → Carries p m Good Came Holds → IsCarried p Good Came Holds (begin m)
begin_carried p m Good Came Holds c = record { good = c.begins; wire = tt; mail = tt }

take_carried : {X L P : Type 0} (p : Plan X) (m : Machine X L P) (Good : ℕ → ℕ → Bool → L → Type 0) (Came : ℕ → X → L → Type 0) (Holds : ℕ → X → P → Type 0) → IsPlan p → Carries p m Good Came Holds → (s : State X L P) (seat i : ℕ) → IsCarried p Good Came Holds s → Takes p s i → IsCarried p Good Came Holds (step p m s (take seat i))
take_carried {X} {L} {P} p m Good Came Holds plan c s seat i h t = record {
  good = λ j. subst (λ g. Good j g (is_some (put s.out i (Some seat) j)) (put s.local i (m.lease i (s.given i) (s.local i)) j)) (same_put j) (good_put Good s.given s.out s.local i (s.given i) (Some seat) (m.lease i (s.given i) (s.local i)) h.good taken j);
  wire = h.wire;
  mail = each_in (HasCome p Came Holds s.local) (HasCome p Came Holds (put s.local i (m.lease i (s.given i) (s.local i)))) (λ k l. is_of p k.round k.of l) (own_test p plan) s.mail
      (λ l _ k. (k.0, came_put p Came s.local i (m.lease i (s.given i) (s.local i)) l.round l.of k.1 (λ e v. subst (λ j. Came l.round l.of (m.lease j (s.given i) (s.local i))) e (c.still_taken l.round l.of (s.local i) (s.given i) v)))) h.mail;
}
  where
    free : Good i (s.given i) false (s.local i)
    free = subst (λ b. Good i (s.given i) b (s.local i)) t.free (h.good i)

    taken : Good i (s.given i) true (m.lease i (s.given i) (s.local i))
    taken = c.takes i (s.given i) (s.local i) t.more free (λ r x low at due to.
        subst (λ j. Came r x (s.local j)) to (mail_at p plan Came Holds s.local s.mail h.mail r x (come_is p plan s.mail r i x (ready_read p s i r low at t.ready) due to)).3)

    same_put : (j : ℕ) → put s.given i (s.given i) j ≡ s.given j
    same_put j = elim (cases_eq j i) [ inl e ↦ put_same s.given i j (s.given i) e ∙ ap s.given (sym e) | inr ne ↦ put_other s.given i j (s.given i) ne ]

-- the letters of a round that a list sends
letters_hold : {X P : Type 0} (p : Plan X) → IsPlan p → (Holds : ℕ → X → P → Type 0) (k r : ℕ) (content : X → P) (xs : List X) → ((x : X) → list_any (p.same x) xs ≡ true → Holds r x (content x)) → Each (IsTrueLetter Holds) (letters k r content xs)
letters_hold p plan Holds k r content [] h = tt
letters_hold p plan Holds k r content (x ∷ xs) h = (h x (or_left (p.same x x) (list_any (p.same x) xs) (plan.is_same x)), letters_hold p plan Holds (suc k) r content xs (λ y l. h y (or_right (p.same y x) (list_any (p.same y) xs) l)))

filter_passes_at : {X : Type 0} (q : X → Bool) (x : X) (xs : List X) (b : Bool) → q x ≡ b → list_all q xs ≡ true → list_all q (cond b (x ∷ xs) xs) ≡ true
filter_passes_at q x xs true e h = and_from (q x) (list_all q xs) e h
filter_passes_at q x xs false e h = h

filter_passes : {X : Type 0} (q : X → Bool) (xs : List X) → list_all q (filter q xs) ≡ true
filter_passes q [] = refl
filter_passes q (x ∷ xs) = filter_passes_at q x (filter q xs) (q x) refl (filter_passes q xs)

posted_hold : {X L P : Type 0} (p : Plan X) (m : Machine X L P) (Good : ℕ → ℕ → Bool → L → Type 0) (Came : ℕ → X → L → Type 0) (Holds : ℕ → X → P → Type 0) → IsPlan p → Carries p m Good Came Holds → (s : State X L P) (i : ℕ) → Good i (s.given i) true (s.local i) → (b : Bool) → is_sending p (s.given i) ≡ b →
    Each (IsTrueLetter Holds) (cond b (letters s.sent (s.given i / 3) (λ x. m.letter (s.given i / 3) x (s.local i)) (filter (λ x. p.from x == i) (p.due (s.given i / 3)))) [])
posted_hold p m Good Came Holds plan c s i h false e = tt
posted_hold {X} {L} {P} p m Good Came Holds plan c s i h true e =
    letters_hold p plan Holds s.sent q (λ x. m.letter q x (s.local i)) (filter (λ x. p.from x == i) (p.due q)) (λ x k. c.sends i q x (s.local i) low (due x k) (own x k) good)
  where
    q : ℕ
    q = s.given i / 3

    parts : (nat_lt (s.given i) (round_tasks p) ≡ true) × ((s.given i % 3 == 0) ≡ true)
    parts = and_parts (nat_lt (s.given i) (round_tasks p)) (s.given i % 3 == 0) e

    low : s.given i / 3 < p.rounds
    low = let a = ltb-true (s.given i) (round_tasks p) parts.0 in omega arith

    at : s.given i ≡ 3 * (s.given i / 3)
    at = let a = eqb-true (s.given i % 3) 0 parts.1 in omega arith

    good : Good i (3 * (s.given i / 3)) true (s.local i)
    good = subst (λ g. Good i g true (s.local i)) at h

    due : (x : X) → list_any (p.same x) (filter (λ x. p.from x == i) (p.due q)) ≡ true → is_due p q x ≡ true
    due x k = let a = any_count (p.same x) (filter (λ x. p.from x == i) (p.due q)) k in let b = count_filter (p.same x) (λ x. p.from x == i) (p.due q) in count_any (p.same x) (p.due q) (omega arith)

    own : (x : X) → list_any (p.same x) (filter (λ x. p.from x == i) (p.due q)) ≡ true → p.from x ≡ i
    own x k = let a = all_any (λ x. p.from x == i) (p.same x) (filter (λ x. p.from x == i) (p.due q)) (filter_passes (λ x. p.from x == i) (p.due q)) k in
        eqb-true (p.from x) i (ap (λ v. p.from v == i) (plan.same_is x a.0 a.2) ∙ a.1)

left_each : {X L P : Type 0} (p : Plan X) (s : State X L P) (Q : Letter X P → Type 0) (i : ℕ) → Each Q s.mail → (b : Bool) → Each Q (cond b (filter (λ l. not (is_for p (s.given i / 3) i l)) s.mail) s.mail)
left_each p s Q i h true = each_filter Q (λ l. not (is_for p (s.given i / 3) i l)) s.mail h
left_each p s Q i h false = h

give_carried : {X L P : Type 0} (p : Plan X) (m : Machine X L P) (Good : ℕ → ℕ → Bool → L → Type 0) (Came : ℕ → X → L → Type 0) (Holds : ℕ → X → P → Type 0) → IsPlan p → Carries p m Good Came Holds → (s : State X L P) (seat i : ℕ) → Orderly p s → Orderly p (step p m s (give seat i)) → IsCarried p Good Came Holds s → Gives p s i → IsCarried p Good Came Holds (step p m s (give seat i))
give_carried {X} {L} {P} p m Good Came Holds plan c s seat i o next h t = record {
  good = good_put Good s.given s.out s.local i (s.given i + 1) None work h.good done;
  wire = each_append (IsTrueLetter Holds) s.wire (posted p m s i) h.wire (posted_hold p m Good Came Holds plan c s i busy (is_sending p (s.given i)) refl);
  mail = each_in (HasCome p Came Holds s.local) (HasCome p Came Holds (put s.local i work)) (λ k l. is_of p k.round k.of l) (own_test p plan) (left p s i) still (left_each p s (HasCome p Came Holds s.local) i h.mail (is_reading p (s.given i)));
}
  where
    work : L
    work = m.work i (s.given i) (reads p m s (s.given i / 3)) (s.local i)

    busy : Good i (s.given i) true (s.local i)
    busy = subst (λ b. Good i (s.given i) b (s.local i)) t.busy (h.good i)

    read : (r : ℕ) (x : X) → r < p.rounds → s.given i ≡ 3 * r + 1 → is_due p r x ≡ true → p.to x ≡ i → Holds r x (reads p m s (s.given i / 3) x)
    read r x low at due to =
        let a = mail_at p plan Came Holds s.local s.mail h.mail r x (o.come r x low due (ap s.given to ∙ at) (ap (λ j. is_some (s.out j)) to ∙ t.busy)) in
        let e : a.0.content ≡ reads p m s r x = sym (ap (content_of (m.blank x)) a.1) in
        subst (λ q. Holds r x (reads p m s q x)) (sym (round_of r (s.given i) at)) (subst (λ (v : P). Holds r x v) e a.2)

    done : Good i (s.given i + 1) false work
    done = c.gives i (s.given i) (reads p m s (s.given i / 3)) (s.local i) (o.busy i t.busy) busy read

    somewhere_next : (l : Letter X P) → list_any (is_of p l.round l.of) (left p s i) ≡ true → Somewhere p (step p m s (give seat i)) l.round l.of
    somewhere_next l k = somewhere p (step p m s (give seat i)) next l.round l.of (let a = any_count (is_of p l.round l.of) (left p s i) k in omega arith)

    still : (l : Letter X P) → list_any (is_of p l.round l.of) (left p s i) ≡ true → HasCome p Came Holds s.local l → HasCome p Came Holds (put s.local i work) l
    still l k v =
        let w = somewhere_next l k in (
          v.0,
          came_put p Came s.local i work l.round l.of v.1 (λ e u. subst (λ j. Came l.round l.of (m.work j (s.given i) (reads p m s (s.given i / 3)) (s.local i))) e
              (c.still_given l.round l.of (s.local i) (s.given i) (reads p m s (s.given i / 3)) w.way.round (let a = put_same s.given i (p.to l.of) (s.given i + 1) e in let b = w.way.unread in omega arith) u)),
        )

deliver_carried : {X L P : Type 0} (p : Plan X) (m : Machine X L P) (Good : ℕ → ℕ → Bool → L → Type 0) (Came : ℕ → X → L → Type 0) (Holds : ℕ → X → P → Type 0) → IsPlan p → Carries p m Good Came Holds → (s : State X L P) (k : ℕ) (l : Letter X P) → Orderly p s → IsCarried p Good Came Holds s → find (λ y. y.number == k) s.wire ≡ Some l → 1 ≤ count_by (is_of p l.round l.of) s.wire → IsCarried p Good Came Holds (delivered p m s k (Some l))
deliver_carried {X} {L} {P} p m Good Came Holds plan c s k l o h f there = record {
  good = λ j. subst2 j (good_put Good s.given s.out s.local (p.to l.of) (s.given (p.to l.of)) (s.out (p.to l.of)) with_it h.good came j);
  wire = each_without (IsTrueLetter Holds) k s.wire h.wire;
  mail = each_append (HasCome p Came Holds (put s.local (p.to l.of) with_it)) s.mail (l ∷ [])
      (each_in (HasCome p Came Holds s.local) (HasCome p Came Holds (put s.local (p.to l.of) with_it)) (λ k l. is_of p k.round k.of l) (own_test p plan) s.mail (λ y _ v. (v.0, came_put p Came s.local (p.to l.of) with_it y.round y.of v.1 (λ e u. c.still_come y.round y.of (s.local (p.to l.of)) l.round l.of l.content u))) h.mail)
      ((holds, subst (λ (v : L). Came l.round l.of v) (sym (put_same s.local (p.to l.of) (p.to l.of) with_it refl)) (c.came l.round l.of l.content (s.local (p.to l.of)) way.way.round way.due holds)), tt);
}
  where
    with_it : L
    with_it = m.arrive l.round l.of l.content (s.local (p.to l.of))

    holds : Holds l.round l.of l.content
    holds = each_found (IsTrueLetter Holds) (λ y. y.number == k) s.wire l h.wire f

    way : Somewhere p s l.round l.of
    way = somewhere p s o l.round l.of (omega arith)

    not_out : s.given (p.to l.of) ≡ 3 * l.round + 1 → is_some (s.out (p.to l.of)) ≡ false
    not_out at = false_from_ne_true (is_some (s.out (p.to l.of))) (λ b.
        let d = any_count (is_of p l.round l.of) s.mail (o.come l.round l.of way.way.round way.due at b) in
        let e = once_at_most in
        absurd (omega arith))
      where
        cond_most : (b : Bool) (n : ℕ) → n ≤ 1 → cond b n 0 ≤ 1
        cond_most true n h = h
        cond_most false n h = omega arith

        once_at_most : copies p s l.round l.of ≤ 1
        once_at_most = subst (λ n. n ≤ 1) (sym (o.place l.round l.of)) (cond_most (on_way p.rounds l.round (s.given (p.from l.of)) (s.given (p.to l.of))) (due_count p l.round l.of) (plan.once l.round l.of))

    came : Good (p.to l.of) (s.given (p.to l.of)) (is_some (s.out (p.to l.of))) with_it
    came = c.comes (s.given (p.to l.of)) (is_some (s.out (p.to l.of))) l.round l.of l.content (s.local (p.to l.of)) way.way.round way.due way.way.unread not_out (h.good (p.to l.of)) holds

    same_given : (j : ℕ) → put s.given (p.to l.of) (s.given (p.to l.of)) j ≡ s.given j
    same_given j = elim (cases_eq j (p.to l.of)) [ inl e ↦ put_same s.given (p.to l.of) j (s.given (p.to l.of)) e ∙ ap s.given (sym e) | inr ne ↦ put_other s.given (p.to l.of) j (s.given (p.to l.of)) ne ]

    same_out : (j : ℕ) → put s.out (p.to l.of) (s.out (p.to l.of)) j ≡ s.out j
    same_out j = elim (cases_eq j (p.to l.of)) [ inl e ↦ put_same s.out (p.to l.of) j (s.out (p.to l.of)) e ∙ ap s.out (sym e) | inr ne ↦ put_other s.out (p.to l.of) j (s.out (p.to l.of)) ne ]

    subst2 : (j : ℕ) → Good j (put s.given (p.to l.of) (s.given (p.to l.of)) j) (is_some (put s.out (p.to l.of) (s.out (p.to l.of)) j)) (put s.local (p.to l.of) with_it j) → Good j (s.given j) (is_some (s.out j)) (put s.local (p.to l.of) with_it j)
    subst2 j v = subst (λ g. Good j g (is_some (s.out j)) (put s.local (p.to l.of) with_it j)) (same_given j) (subst (λ (u : Option ℕ). Good j (put s.given (p.to l.of) (s.given (p.to l.of)) j) (is_some u) (put s.local (p.to l.of) with_it j)) (same_out j) v)

-- one that is found by a test is there by its own
found_there : {X P : Type 0} (p : Plan X) → IsPlan p → (q : Letter X P → Bool) (l : Letter X P) (ls : List (Letter X P)) → find q ls ≡ Some l → 1 ≤ count_by (is_of p l.round l.of) ls
found_there {X} {P} p plan q l ls e = any_count (is_of p l.round l.of) ls (each_found (λ (y : Letter X P). list_any (is_of p y.round y.of) ls ≡ true) q ls l (each_in (λ _. Unit {0}) (λ (y : Letter X P). list_any (is_of p y.round y.of) ls ≡ true) (λ k l. is_of p k.round k.of l) (own_test p plan) ls (λ y h _. h) (each_any ls)) e)

step_carried : {X L P : Type 0} (p : Plan X) (m : Machine X L P) (Good : ℕ → ℕ → Bool → L → Type 0) (Came : ℕ → X → L → Type 0) (Holds : ℕ → X → P → Type 0) → IsPlan p → Carries p m Good Came Holds → (s : State X L P) (e : Event) → Orderly p s → IsCarried p Good Came Holds s → is_legal p s e ≡ true → IsCarried p Good Came Holds (step p m s e)
step_carried p m Good Came Holds plan c s (take seat i) o h legal = take_carried p m Good Came Holds plan c s seat i h (takes_is p s i legal)
step_carried p m Good Came Holds plan c s (give seat i) o h legal = give_carried p m Good Came Holds plan c s seat i o (step_orderly p m plan s (give seat i) o legal) h (gives_is p s seat i legal)
step_carried {X} {L} {P} p m Good Came Holds plan c s (deliver seat k) o h legal =
    let f = found (λ l. l.number == k) s.wire legal in
    subst (λ (v : Option (Letter X P)). IsCarried p Good Came Holds (delivered p m s k v)) (sym f.1) (deliver_carried p m Good Came Holds plan c s k f.0 o h f.1 (found_there p plan (λ l. l.number == k) f.0 s.wire f.1))

after_carried : {X L P : Type 0} (p : Plan X) (m : Machine X L P) (Good : ℕ → ℕ → Bool → L → Type 0) (Came : ℕ → X → L → Type 0) (Holds : ℕ → X → P → Type 0) → IsPlan p → Carries p m Good Came Holds → (s : State X L P) (events : List Event) → Orderly p s → IsCarried p Good Came Holds s → are_legal p m s events ≡ true → IsCarried p Good Came Holds (after p m s events)
after_carried p m Good Came Holds plan c s [] o h legal = h
after_carried p m Good Came Holds plan c s (e ∷ es) o h legal =
    let a = and_parts (is_legal p s e) (are_legal p m (step p m s e) es) legal in
    after_carried p m Good Came Holds plan c (step p m s e) es (step_orderly p m plan s e o a.0) (step_carried p m Good Came Holds plan c s e o h a.0) a.1

-- what a machine supplies holds in every state that a legal list of events leads to
pub replay_carried : {X L P : Type 0} (p : Plan X) (m : Machine X L P) (Good : ℕ → ℕ → Bool → L → Type 0) (Came : ℕ → X → L → Type 0) (Holds : ℕ → X → P → Type 0) → IsPlan p → Carries p m Good Came Holds → (events : List Event) → IsHistory p m events → IsCarried p Good Came Holds (replay p m events)
replay_carried p m Good Came Holds plan c events h = after_carried p m Good Came Holds plan c (begin m) events (begin_orderly p m) (begin_carried p m Good Came Holds c) h
