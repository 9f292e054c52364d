-- A reading has the letters that are due to it.
use Rattle.std.proofs.Common.{◌≡◌, ℕ, ◌+◌, ◌*◌, ◌/◌, ◌%◌, ◌<◌, ◌≤◌, ◌==◌, Bool, true, false, cond, ◌&&◌, nat_lt, is_some, List, [], filter, count_by, arith, ap, sym, subst, ◌∙◌}
use Rattle.std.specs.List.{list_any}
use Rattle.std.proofs.lemmas.Bool.{and_parts, eqb-true, ltb-true}
use Rattle.cycle_rounds.specs.Plan.{IsPlan, Plan, is_due, is_reading, round_tasks}
use Rattle.cycle_rounds.specs.Events.{Each, Event, IsHistory, Letter, Machine, State, content_of, is_for, is_of, replay}
use Rattle.cycle_rounds.specs.Protocol.{is_under_way}
use Rattle.cycle_rounds.proofs.Lists.{any_count, count_any, count_filter, count_kept}
use Rattle.cycle_rounds.proofs.LetterLaws.{in_one_place}
use Rattle.cycle_rounds.proofs.Orderly.{Orderly, for_is, is_for_from, of_is, own_test, somewhere}
use Rattle.cycle_rounds.proofs.OrderlyKept.{replay_orderly}
use Rattle.cycle_table_laws.specs.Laws.{to_read}
use Rattle.round_letters.specs.Readings.{HasDueLetters, IsRead, ReadingsHaveDueLetters}
use Rattle.round_letters.proofs.Found.{IsIn, any_in, each_from, filtered, only_found}

one_most : (t : Bool) → cond {A = ℕ} t 1 0 ≤ 1
one_most true = omega arith
one_most false = omega arith

module _ (X L P : Type 0) (p : Plan X) (m : Machine X L P) (events : List Event) (i : ℕ) (plan : IsPlan p) (h : IsHistory p m events) (reading : is_reading p ((replay p m events).given i) ≡ true) (out : is_some ((replay p m events).out i) ≡ true) where
  abbrev s : State X L P
  s = replay p m events

  abbrev r : ℕ
  r = (replay p m events).given i / 3

  is_filter : to_read p (replay p m events) i ≡ filter (is_for p ((replay p m events).given i / 3) i) (replay p m events).mail
  is_filter = ap (λ (t : Bool). cond t (filter (is_for p ((replay p m events).given i / 3) i) (replay p m events).mail) []) reading

  orderly : Orderly p (replay p m events)
  orderly = replay_orderly p m plan events h

  once_in_mail : (x : X) → count_by (is_of p ((replay p m events).given i / 3) x) (replay p m events).mail ≤ 1
  once_in_mail x =
      let place : count_by (is_of p r x) s.wire + count_by (is_of p r x) s.mail ≡ cond (nat_lt r p.rounds && (is_due p r x && is_under_way p s r x)) 1 0 = in_one_place X L P p m events plan h r x in
      let most = one_most (nat_lt r p.rounds && (is_due p r x && is_under_way p s r x)) in
      omega (arith, place, most)

  is_read : (l : Letter X P) → IsIn l (filter (is_for p ((replay p m events).given i / 3) i) (replay p m events).mail) → IsRead p m (replay p m events) i l
  is_read l there =
      let f = filtered (is_for p r i) s.mail l there in
      let for = for_is p r i l f.1 in
      let own : is_of p r l.of l ≡ true = subst (λ (q : ℕ). is_of p q l.of l ≡ true) for.round (own_test p plan l) in
      let some = any_count (is_of p r l.of) s.mail (any_in (is_of p r l.of) s.mail l f.0 own) in
      record {
        round = for.round;
        due = (somewhere p s orderly r l.of (omega (arith, some))).due;
        reader = for.reader;
        held = ap (content_of (m.blank l.of)) (only_found (is_of p r l.of) s.mail l f.0 own (once_in_mail l.of));
      }

  is_there : (x : X) → is_due p ((replay p m events).given i / 3) x ≡ true → p.to x ≡ i → list_any (is_of p ((replay p m events).given i / 3) x) (filter (is_for p ((replay p m events).given i / 3) i) (replay p m events).mail) ≡ true
  is_there x due to =
      let parts = and_parts (nat_lt (s.given i) (round_tasks p)) (s.given i % 3 == 1) reading in
      let few : s.given i < 3 * p.rounds = ltb-true (s.given i) (round_tasks p) parts.0 in
      let one : s.given i % 3 ≡ 1 = eqb-true (s.given i % 3) 1 parts.1 in
      let given : s.given i ≡ 3 * r + 1 = omega (arith, one) in
      let come = orderly.come r x (omega (arith, few)) due (ap s.given to ∙ given) (ap (λ (j : ℕ). is_some (s.out j)) to ∙ out) in
      let kept = count_kept (is_of p r x) (is_for p r i) (λ l own. let of = of_is p plan r x l own in is_for_from p r i l of.round (ap p.to (sym of.of) ∙ to)) s.mail in
      let some = any_count (is_of p r x) s.mail come in
      count_any (is_of p r x) (filter (is_for p r i) s.mail) (omega (arith, kept, some))

  pub has_due_letters : HasDueLetters p m (replay p m events) i
  has_due_letters = record {
    each = subst (λ (v : List (Letter X P)). Each (IsRead p m (replay p m events) i) v) (sym is_filter) (each_from (IsRead p m (replay p m events) i) (filter (is_for p ((replay p m events).given i / 3) i) (replay p m events).mail) is_read);
    once = λ x. subst (λ (v : List (Letter X P)). count_by (is_of p ((replay p m events).given i / 3) x) v ≤ 1) (sym is_filter)
        (let less = count_filter (is_of p r x) (is_for p r i) s.mail in let one = once_in_mail x in omega (arith, less, one));
    all = λ x due to. subst (λ (v : List (Letter X P)). list_any (is_of p ((replay p m events).given i / 3) x) v ≡ true) (sym is_filter) (is_there x due to);
  }

pub readings_have_due_letters : (X L P : Type 0) → ReadingsHaveDueLetters X L P
readings_have_due_letters X L P p m events i plan h reading out = has_due_letters X L P p m events i plan h reading out
