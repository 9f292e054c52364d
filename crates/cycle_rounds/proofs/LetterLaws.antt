-- Letters, the order of tasks, and leases, in every state that a legal list of events leads to.
use Rattle.std.proofs.Common.{◌≡◌, ℕ, ◌+◌, ◌/◌, ◌<◌, ◌≤◌, ◌==◌, Bool, true, false, cond, not, ◌&&◌, nat_lt, Option, Some, None, is_some, filter, refl, arith, sym, subst, ◌∙◌}
use Rattle.std.specs.List.{list_any}
use Rattle.std.proofs.lemmas.Bool.{eqb-false}
use Rattle.cycle_rounds.specs.Plan.{IsPlan, Plan, all_tasks, is_due, is_reading}
use Rattle.cycle_rounds.specs.Events.{Letter, State, delivered, is_for, is_of, reads, replay}
use Rattle.cycle_rounds.specs.Events.Event.{take, give, deliver}
use Rattle.cycle_rounds.specs.Protocol.{EachLetterHasItsNumber, EachLetterIsInOnePlace, EventsAreInOrder, LeasesStay, OthersLeaveItAlone, StaysLeased, is_under_way}
use Rattle.cycle_rounds.proofs.Lists.{any_count, count_any, found, no_count, put_other}
use Rattle.cycle_rounds.proofs.Orderly.{due_count, stays}
use Rattle.cycle_rounds.proofs.OrderlyKept.{push_any, replay_orderly}

one_by : (a way : Bool) (n : ℕ) (due : Bool) → (due ≡ true → n ≡ 1) → (due ≡ false → n ≡ 0) → cond (a && way) n 0 ≡ cond (a && (due && way)) 1 0
one_by true true n true f g = f refl
one_by true true n false f g = g refl
one_by true false n true f g = refl
one_by true false n false f g = refl
one_by false way n due f g = refl

due_once : {X : Type 0} (p : Plan X) → IsPlan p → (r : ℕ) (x : X) → is_due p r x ≡ true → due_count p r x ≡ 1
due_once p plan r x h = let a = any_count (p.same x) (p.due r) h in let b = plan.once r x in omega arith

pub in_one_place : (X L P : Type 0) → EachLetterIsInOnePlace X L P
in_one_place X L P p m events plan h r x =
    let o = replay_orderly p m plan events h in
    o.place r x ∙ one_by (nat_lt r p.rounds) (is_under_way p (replay p m events) r x) (due_count p r x) (is_due p r x) (due_once p plan r x) (no_count (p.same x) (p.due r))

pub own_numbers : (X L P : Type 0) → EachLetterHasItsNumber X L P
own_numbers X L P p m events plan h k = (replay_orderly p m plan events h).numbers k

within_tasks : (a b : ℕ) (out : Bool) → a ≤ b → (out ≡ true → a < b) → a + cond out 1 0 ≤ b
within_tasks a b true h k = let l = k refl in omega arith
within_tasks a b false h k = omega arith

pub in_order : (X L P : Type 0) → EventsAreInOrder X L P
in_order X L P p m events plan h = let o = replay_orderly p m plan events h in record {
  sent_first = o.order;
  come_first = o.come;
  all_past = o.barrier;
  within = λ i. within_tasks ((replay p m events).given i) (all_tasks p) (is_some ((replay p m events).out i)) (o.fits i) (o.busy i);
}

-- the letters of one list stay where another list reads
left_any_by : {X L P : Type 0} (p : Plan X) → IsPlan p → (s : State X L P) (i j r : ℕ) (x : X) → (i ≡ j → ⊥) → p.to x ≡ i → list_any (is_of p r x) s.mail ≡ true → (b : Bool) → list_any (is_of p r x) (cond b (filter (λ l. not (is_for p (s.given j / 3) j l)) s.mail) s.mail) ≡ true
left_any_by p plan s i j r x ne to h true = count_any (is_of p r x) (filter (λ l. not (is_for p (s.given j / 3) j l)) s.mail) (subst (λ n. 1 ≤ n) (sym (stays p plan (s.given j / 3) j r x s.mail (λ _ f. ne (sym to ∙ f)))) (any_count (is_of p r x) s.mail h))
left_any_by p plan s i j r x ne to h false = h

pub leases_stay : (X L P : Type 0) → LeasesStay X L P
leases_stay X L P p m s (take seat j) i plan legal own = record { given = refl; out = put_other s.out j i (Some seat) (eqb-false i j own); letters = λ r x to h. h }
leases_stay X L P p m s (give seat j) i plan legal own = record {
  given = put_other s.given j i (s.given j + 1) (eqb-false i j own);
  out = put_other s.out j i None (eqb-false i j own);
  letters = λ r x to h. left_any_by p plan s i j r x (eqb-false i j own) to h (is_reading p (s.given j));
}
leases_stay X L P p m s (deliver seat k) i plan legal own =
    let f = found (λ l. l.number == k) s.wire legal in
    let there : StaysLeased p i s (delivered p m s k (Some f.0)) = record { given = refl; out = refl; letters = λ r x to h. push_any (is_of p r x) s.mail f.0 h } in
    subst (λ (v : Option (Letter X P)). StaysLeased p i s (delivered p m s k v)) (sym f.1) there

pub others_leave : (X L P : Type 0) → OthersLeaveItAlone X L P
others_leave X L P p m s seat i j ne = (put_other s.local j i (m.lease j (s.given j) (s.local j)) ne, put_other s.local j i (m.work j (s.given j) (reads p m s (s.given j / 3)) (s.local j)) ne)
