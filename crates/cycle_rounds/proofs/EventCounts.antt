-- How many events there are.
use Rattle.std.proofs.Common.{◌≡◌, ℕ, suc, ◌+◌, ◌*◌, ◌/◌, ◌<◌, ◌≤◌, ◌==◌, Bool, true, false, cond, inl, inr, nat_lt, Option, Some, None, is_some, List, [], ◌∷◌, length, filter, find, count_by, sum_by, refl, arith, ap, sym, subst, ◌∙◌, eq-eqb, length-append}
use Rattle.std.specs.List.{list_all, range_with_len}
use Rattle.std.proofs.lemmas.Bool.{and_parts, cases_lt, eqb-true, le-ltb, lt-ltb, ne_eqb}
use Rattle.std.proofs.lemmas.List.Sums.{count_by-le-length, length-filter}
use Rattle.cycle_rounds.specs.Plan.{IsPlan, Plan, all_tasks, is_sending}
use Rattle.cycle_rounds.specs.Events.{Event, IsHistory, Letter, Machine, State, after, are_legal, begin, delivered, is_complete, is_legal, posted, put, replay, step, without}
use Rattle.cycle_rounds.specs.Events.Event.{take, give, deliver}
use Rattle.cycle_rounds.specs.Protocol.{EventsAreCounted, all_due}
use Rattle.cycle_rounds.proofs.Lists.{all_from, all_length, count_add, count_cons_no, count_same, count_without, found, length_count, none_if, one_if, put_other, put_same, range_at, range_sum_changed, range_sum_const, range_sum_le, range_sum_same, same_if}
use Rattle.cycle_rounds.proofs.Orderly.{Orderly, length_letters}
use Rattle.cycle_rounds.proofs.OrderlySteps.{Gives, Sends, Takes, gave, gives_is, kind_of, sent_now, takes_is}
use Rattle.cycle_rounds.proofs.OrderlyKept.{replay_orderly}

-- the events of a list that came so far, and the letters of a round that were sent
abbrev own_events : {X L P : Type 0} → State X L P → ℕ → ℕ
own_events s i = 2 * s.given i + cond (is_some (s.out i)) 1 0

abbrev sent_of : {X L P : Type 0} → Plan X → State X L P → ℕ → ℕ
sent_of p s r = count_by (λ x. nat_lt (3 * r) (s.given (p.from x))) (p.due r)

record Counted {X L P : Type 0} (p : Plan X) (s : State X L P) (n : ℕ) : Type 0 where
  tally : n + length s.wire ≡ sum_by (own_events s) (range_with_len 0 p.lists) + s.sent
  sent : s.sent ≡ sum_by (sent_of p s) (range_with_len 0 p.rounds)

none_counted : {X : Type 0} (q : X → Bool) → ((x : X) → q x ≡ false) → (xs : List X) → count_by q xs ≡ 0
none_counted q h [] = refl
none_counted q h (x ∷ xs) = count_cons_no q x xs (h x) ∙ none_counted q h xs

begin_counted : {X L P : Type 0} (p : Plan X) (m : Machine X L P) → Counted p (begin m) 0
begin_counted p m = record {
  tally = (let a = range_sum_const 0 0 p.lists in omega arith);
  sent = sym (range_sum_same (λ _. 0) (sent_of p (begin m)) 0 p.rounds (λ r low high. none_counted (λ x. nat_lt (3 * r) 0) (λ x. le-ltb (3 * r) 0 (omega arith)) (p.due r)) ∙ (let a = range_sum_const 0 0 p.rounds in omega arith));
}

take_counted : {X L P : Type 0} (p : Plan X) (m : Machine X L P) (s : State X L P) (seat i n : ℕ) → Takes p s i → Counted p s n → Counted p (step p m s (take seat i)) (suc n)
take_counted {X} {L} {P} p m s seat i n t c = record {
  tally = (let a = range_sum_changed (own_events s) (own_events (step p m s (take seat i))) 0 p.lists i 1 (omega arith) (let b = t.list in omega arith) here others in let b = c.tally in omega arith);
  sent = c.sent;
}
  where
    here : own_events (step p m s (take seat i)) i ≡ own_events s i + 1
    here = let a = one_if (is_some (put s.out i (Some seat) i)) (ap is_some (put_same s.out i i (Some seat) refl)) in let b = none_if (is_some (s.out i)) t.free in omega arith

    others : (j : ℕ) → (j ≡ i → ⊥) → own_events (step p m s (take seat i)) j ≡ own_events s j
    others j ne = let a = same_if (is_some (put s.out i (Some seat) j)) (is_some (s.out j)) (ap is_some (put_other s.out i j (Some seat) ne)) in omega arith

lt_same : (a b c d : ℕ) → (a < b → c < d) → (c < d → a < b) → nat_lt a b ≡ nat_lt c d
lt_same a b c d f g = elim (cases_lt a b) [
  | inl low ↦ lt-ltb a b low ∙ sym (lt-ltb c d (f low))
  | inr high ↦ le-ltb a b high ∙ sym (elim (cases_lt c d) [ inl l ↦ (let k = g l in absurd (omega arith)) | inr h ↦ le-ltb c d h ])
]

-- what a Give sends of a round, where its task is no sending of it
sent_same : {X L P : Type 0} (p : Plan X) (m : Machine X L P) (s : State X L P) (seat i r : ℕ) → (3 * r ≡ s.given i → ⊥) → sent_of p (step p m s (give seat i)) r ≡ sent_of p s r
sent_same {X} {L} {P} p m s seat i r ne = count_same (λ x. nat_lt (3 * r) (put s.given i (s.given i + 1) (p.from x))) (λ x. nat_lt (3 * r) (s.given (p.from x))) same (p.due r)
  where
    same : (x : X) → nat_lt (3 * r) (put s.given i (s.given i + 1) (p.from x)) ≡ nat_lt (3 * r) (s.given (p.from x))
    same x = elim (gave s i (p.from x)) [
      | inl w ↦ (let a = w.old in let b = w.new in lt_same (3 * r) (put s.given i (s.given i + 1) (p.from x)) (3 * r) (s.given (p.from x)) (λ h. omega arith) (λ h. omega arith))
      | inr w ↦ ap (nat_lt (3 * r)) w.new
    ]

-- and where it is
sent_more : {X L P : Type 0} (p : Plan X) (m : Machine X L P) (s : State X L P) (seat i : ℕ) → Sends p (s.given i) → sent_of p (step p m s (give seat i)) (s.given i / 3) ≡ sent_of p s (s.given i / 3) + length (sent_now p m s i)
sent_more {X} {L} {P} p m s seat i k =
    let a = count_add (λ x. nat_lt (3 * (s.given i / 3)) (put s.given i (s.given i + 1) (p.from x))) (λ x. nat_lt (3 * (s.given i / 3)) (s.given (p.from x))) (λ x. p.from x == i) each (p.due (s.given i / 3)) in
    let b = length_letters s.sent (s.given i / 3) (λ y. m.letter (s.given i / 3) y (s.local i)) (filter (λ y. p.from y == i) (p.due (s.given i / 3))) in
    let c = length-filter (λ y. p.from y == i) (p.due (s.given i / 3)) in
    omega arith
  where
    each : (x : X) → cond (nat_lt (3 * (s.given i / 3)) (put s.given i (s.given i + 1) (p.from x))) 1 0 ≡ cond (nat_lt (3 * (s.given i / 3)) (s.given (p.from x))) 1 0 + cond (p.from x == i) 1 0
    each x = let at = k.at in elim (gave s i (p.from x)) [
      | inl w ↦ (let a = w.old in let b = w.new in
          let u = one_if (nat_lt (3 * (s.given i / 3)) (put s.given i (s.given i + 1) (p.from x))) (lt-ltb (3 * (s.given i / 3)) (put s.given i (s.given i + 1) (p.from x)) (omega arith)) in
          let v = none_if (nat_lt (3 * (s.given i / 3)) (s.given (p.from x))) (le-ltb (3 * (s.given i / 3)) (s.given (p.from x)) (omega arith)) in
          let t = one_if (p.from x == i) (eq-eqb (p.from x) i w.same) in omega arith)
      | inr w ↦ (let u = same_if (nat_lt (3 * (s.given i / 3)) (put s.given i (s.given i + 1) (p.from x))) (nat_lt (3 * (s.given i / 3)) (s.given (p.from x))) (ap (nat_lt (3 * (s.given i / 3))) w.new) in
          let t = none_if (p.from x == i) (ne_eqb (p.from x) i w.other) in omega arith)
    ]

give_sent : {X L P : Type 0} (p : Plan X) (m : Machine X L P) (s : State X L P) (seat i : ℕ) → s.sent ≡ sum_by (sent_of p s) (range_with_len 0 p.rounds) → s.sent + length (posted p m s i) ≡ sum_by (sent_of p (step p m s (give seat i))) (range_with_len 0 p.rounds)
give_sent {X} {L} {P} p m s seat i c = elim (kind_of p (s.given i)) [
  | inl k ↦ (let a = range_sum_changed (sent_of p s) (sent_of p (step p m s (give seat i))) 0 p.rounds (s.given i / 3) (length (sent_now p m s i)) (omega arith) (let b = k.round in omega arith) (sent_more p m s seat i k) (λ r ne. sent_same p m s seat i r (λ e. ne (third r e))) in
      let b = ap (λ (v : Bool). length (cond v (sent_now p m s i) [])) k.sending in omega arith)
  | inr (inl k) ↦ (let at = k.at in quiet k.sending (λ r low high. sent_same p m s seat i r (λ e. omega arith)))
  | inr (inr k) ↦ quiet k.sending (λ r low high. sent_same p m s seat i r (λ e. (k.neither r (omega arith)).0 e))
]
  where
    third : (r : ℕ) → 3 * r ≡ s.given i → r ≡ s.given i / 3
    third r e = omega arith

    quiet : is_sending p (s.given i) ≡ false → ((r : ℕ) → 0 ≤ r → r < 0 + p.rounds → sent_of p (step p m s (give seat i)) r ≡ sent_of p s r) → s.sent + length (posted p m s i) ≡ sum_by (sent_of p (step p m s (give seat i))) (range_with_len 0 p.rounds)
    quiet e h = let a = range_sum_same (sent_of p s) (sent_of p (step p m s (give seat i))) 0 p.rounds h in let b = ap (λ (v : Bool). length (cond v (sent_now p m s i) [])) e in omega arith

give_counted : {X L P : Type 0} (p : Plan X) (m : Machine X L P) (s : State X L P) (seat i n : ℕ) → Gives p s i → Counted p s n → Counted p (step p m s (give seat i)) (suc n)
give_counted {X} {L} {P} p m s seat i n t c = record {
  tally = (let a = range_sum_changed (own_events s) (own_events (step p m s (give seat i))) 0 p.lists i 1 (omega arith) (let b = t.list in omega arith) here others in let b = c.tally in let d = length-append s.wire (posted p m s i) in omega arith);
  sent = give_sent p m s seat i c.sent;
}
  where
    here : own_events (step p m s (give seat i)) i ≡ own_events s i + 1
    here = let a = none_if (is_some (put s.out i None i)) (ap is_some (put_same s.out i i None refl)) in let b = one_if (is_some (s.out i)) t.busy in let d = put_same s.given i i (s.given i + 1) refl in omega arith

    others : (j : ℕ) → (j ≡ i → ⊥) → own_events (step p m s (give seat i)) j ≡ own_events s j
    others j ne = let a = same_if (is_some (put s.out i None j)) (is_some (s.out j)) (ap is_some (put_other s.out i j None ne)) in let d = put_other s.given i j (s.given i + 1) ne in omega arith

deliver_counted : {X L P : Type 0} (p : Plan X) (m : Machine X L P) (s : State X L P) (k n : ℕ) (l : Letter X P) → find (λ y. y.number == k) s.wire ≡ Some l → Counted p s n → Counted p (delivered p m s k (Some l)) (suc n)
deliver_counted {X} {L} {P} p m s k n l e c = record {
  tally = (let a = count_without k (λ (_ : Letter X P). true) l s.wire e in let b = length_count s.wire in let d = length_count (without k s.wire) in let f = c.tally in omega arith);
  sent = c.sent;
}

step_counted : {X L P : Type 0} (p : Plan X) (m : Machine X L P) (s : State X L P) (e : Event) (n : ℕ) → is_legal p s e ≡ true → Counted p s n → Counted p (step p m s e) (suc n)
step_counted p m s (take seat i) n h c = take_counted p m s seat i n (takes_is p s i h) c
step_counted p m s (give seat i) n h c = give_counted p m s seat i n (gives_is p s seat i h) c
step_counted {X} {L} {P} p m s (deliver seat k) n h c = let f = found (λ l. l.number == k) s.wire h in
    subst (λ (v : Option (Letter X P)). Counted p (delivered p m s k v) (suc n)) (sym f.1) (deliver_counted p m s k n f.0 f.1 c)

after_counted : {X L P : Type 0} (p : Plan X) (m : Machine X L P) (s : State X L P) (events : List Event) (n : ℕ) → are_legal p m s events ≡ true → Counted p s n → Counted p (after p m s events) (n + length events)
after_counted p m s [] n h c = subst (λ k. Counted p s k) (plus_none n) c
  where
    plus_none : (n : ℕ) → n ≡ n + 0
    plus_none n = omega arith
after_counted p m s (e ∷ es) n h c =
    let a = and_parts (is_legal p s e) (are_legal p m (step p m s e) es) h in
    subst (λ k. Counted p (after p m (step p m s e) es) k) (plus_one n (length es)) (after_counted p m (step p m s e) es (suc n) a.1 (step_counted p m s e n a.0 c))
  where
    plus_one : (n k : ℕ) → suc n + k ≡ n + suc k
    plus_one n k = omega arith

own_most : (a b : ℕ) (out : Bool) → a ≤ b → (out ≡ true → a < b) → 2 * a + cond out 1 0 ≤ 2 * b
own_most a b true h k = let l = k refl in omega arith
own_most a b false h k = omega arith

own_all : (a b : ℕ) (out : Bool) → a ≡ b → (out ≡ true → a < b) → 2 * a + cond out 1 0 ≡ 2 * b
own_all a b true h k = let l = k refl in absurd (omega arith)
own_all a b false h k = omega arith

twice : (n t : ℕ) → n * (2 * t) ≡ 2 * (n * t)
twice n t = omega arith

record Done {X L P : Type 0} (p : Plan X) (s : State X L P) : Type 0 where
  given : (i : ℕ) → i < p.lists → s.given i ≡ all_tasks p
  wire : length s.wire ≡ 0

done_is : {X L P : Type 0} (p : Plan X) (s : State X L P) → is_complete p s ≡ true → Done p s
done_is p s h =
    let a = and_parts (list_all (λ i. s.given i == all_tasks p) (range_with_len 0 p.lists)) (length s.wire == 0) h in
    record { given = λ i l. eqb-true (s.given i) (all_tasks p) (range_at (λ i. s.given i == all_tasks p) 0 p.lists a.0 i (omega arith) (omega arith)); wire = eqb-true (length s.wire) 0 a.1 }

-- in a complete state all letters of a round were sent
all_sent : {X L P : Type 0} (p : Plan X) → IsPlan p → (s : State X L P) → Done p s → (r : ℕ) → r < p.rounds → sent_of p s r ≡ length (p.due r)
all_sent p plan s d r low = all_length (λ x. nat_lt (3 * r) (s.given (p.from x))) (p.due r) (all_from (λ x. nat_lt (3 * r) (s.given (p.from x))) p.same plan.is_same (p.due r)
    (λ x due. let e = d.given (p.from x) (plan.sender r x due) in lt-ltb (3 * r) (s.given (p.from x)) (omega arith)))

counted_most : {X L P : Type 0} (p : Plan X) (s : State X L P) (n : ℕ) → Orderly p s → Counted p s n → n ≤ 2 * (p.lists * all_tasks p) + all_due p
counted_most p s n o c =
    let t = c.tally in let u = c.sent in
    let a = range_sum_le (own_events s) (λ _. 2 * all_tasks p) 0 p.lists (λ i low high. own_most (s.given i) (all_tasks p) (is_some (s.out i)) (o.fits i) (o.busy i)) in
    let b = range_sum_const (2 * all_tasks p) 0 p.lists in
    let d = range_sum_le (sent_of p s) (λ r. length (p.due r)) 0 p.rounds (λ r low high. count_by-le-length (λ x. nat_lt (3 * r) (s.given (p.from x))) (p.due r)) in
    let e = twice p.lists (all_tasks p) in
    omega arith

counted_exact : {X L P : Type 0} (p : Plan X) → IsPlan p → (s : State X L P) (n : ℕ) → Orderly p s → Counted p s n → Done p s → n ≡ 2 * (p.lists * all_tasks p) + all_due p
counted_exact p plan s n o c f =
    let t = c.tally in let u = c.sent in let w = f.wire in
    let a = range_sum_same (λ _. 2 * all_tasks p) (own_events s) 0 p.lists (λ i low high. own_all (s.given i) (all_tasks p) (is_some (s.out i)) (f.given i (omega arith)) (o.busy i)) in
    let b = range_sum_const (2 * all_tasks p) 0 p.lists in
    let d = range_sum_same (λ r. length (p.due r)) (sent_of p s) 0 p.rounds (λ r low high. all_sent p plan s f r (omega arith)) in
    let e = twice p.lists (all_tasks p) in
    omega arith

from_zero : {X L P : Type 0} (p : Plan X) (s : State X L P) (n : ℕ) → Counted p s (0 + n) → Counted p s n
from_zero p s n c = subst (λ k. Counted p s k) (zero_plus n) c
  where
    zero_plus : (n : ℕ) → 0 + n ≡ n
    zero_plus n = omega arith

pub events_counted : (X L P : Type 0) → EventsAreCounted X L P
events_counted X L P p m events plan h =
    let o = replay_orderly p m plan events h in
    let c = from_zero p (replay p m events) (length events) (after_counted p m (begin m) events 0 h (begin_counted p m)) in
    (counted_most p (replay p m events) (length events) o c, λ done. counted_exact p plan (replay p m events) (length events) o c (done_is p (replay p m events) done))

-- no event sends more letters than are due in all
pub sent_most : {X L P : Type 0} (p : Plan X) (m : Machine X L P) (events : List Event) (e : Event) → IsHistory p m events → is_legal p (replay p m events) e ≡ true → (step p m (replay p m events) e).sent ≤ all_due p
sent_most p m events e h legal =
    let c = (step_counted p m (replay p m events) e (0 + length events) legal (after_counted p m (begin m) events 0 h (begin_counted p m))).sent in
    let d = range_sum_le (sent_of p (step p m (replay p m events) e)) (λ r. length (p.due r)) 0 p.rounds (λ r low high. count_by-le-length (λ x. nat_lt (3 * r) ((step p m (replay p m events) e).given (p.from x))) (p.due r)) in
    omega arith
