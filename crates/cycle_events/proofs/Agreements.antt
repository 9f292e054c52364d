-- Journals agree with the masked serial run, end as it does, and are never stuck.
use Rattle.std.proofs.Common.{◌≡◌, ℕ, zero, suc, ◌+◌, ◌*◌, ◌/◌, ◌%◌, ◌≤◌, ◌==◌, Bool, true, false, cond, inl, inr, nat_lt, Option, Some, None, is_some, List, [], ◌∷◌, length, map, sum_by, refl, arith, ap, sym, subst, ◌∙◌, eq-eqb}
use Rattle.std.specs.List.{list_any, range_with_len}
use Rattle.std.proofs.lemmas.Bool.{and_from, cases_lt, lt-ltb, or_left}
use Rattle.std.proofs.lemmas.List.Sums.{sum_by-cons}
use Rattle.std.proofs.lemmas.List.{length-map}
use Rattle.cycle_rounds.specs.Events as rounds
use Rattle.cycle_rounds.specs.Events.{Letter, is_with, may_take}
use Rattle.cycle_rounds.specs.Protocol.{CanGoOn, all_due}
use Rattle.cycle_rounds.proofs.EventCounts.{events_counted}
use Rattle.cycle_rounds.proofs.GoOn.{never_stuck}
use Rattle.sparse_rounds.specs.Kernels.{Kernels}
use Rattle.sparse_rounds.specs.Masked.{Run, run_at}
use Rattle.sparse_rounds.specs.Sparse.{Local}
use Rattle.sparse_rounds.proofs.Clock.{even_round, is_plan, odd_round}
use Rattle.sparse_rounds.proofs.Ends.{buffers_are_those, ends_masked, letters_stay_true, stays_masked}
use Rattle.cycle_events.specs.declared.event.Event.{Event}
use Rattle.cycle_events.specs.Cycles.{Cycle, forget, machine, opening, plan, state_of}
use Rattle.cycle_events.specs.Journals.{entry_of}
use Rattle.cycle_events.specs.Laws.{EventsAreCounted, GoesOn, IdleCountsWait, NeverStuck, JournalsEndMasked, JournalsStayMasked}
use Rattle.cycle_events.proofs.Histories.{history_is, legal_entry}

pub journals_stay_masked : (X V G F P W : Type 0) → JournalsStayMasked X V G F P W
journals_stay_masked X V G F P W c events laws h =
    let history = history_is c (opening c) events h.legal in
    record {
      places = stays_masked X V G F P W c.kernels c.start (map forget events) laws.kernels laws.start history;
      letters = letters_stay_true X V G F P W c.kernels c.start (map forget events) laws.kernels laws.start history;
      buffers = buffers_are_those X V G F P W c.kernels c.start (map forget events) laws.kernels laws.start history;
    }

pub journals_end_masked : (X V G F P W : Type 0) → JournalsEndMasked X V G F P W
journals_end_masked X V G F P W c events laws h =
    ends_masked X V G F P W c.kernels c.start (map forget events) laws.kernels laws.start (history_is c (opening c) events h.journal.legal) h.done

-- the idle counts of the run before the check
run_idle : {X V G F P W : Type 0} (k : Kernels X V G F P W) (start : Run V) (n b f : ℕ) → (run_at k start n).idle b f ≡ start.idle b f
run_idle k start zero b f = refl
run_idle k start (suc n) b f = run_idle k start n b f

pub idle_counts_wait : (X V G F P W : Type 0) → IdleCountsWait X V G F P W
idle_counts_wait X V G F P W c events b f laws h low =
    let a = (journals_stay_masked X V G F P W c events laws h).places b f in
    let g = (state_of c events).given (c.kernels.owner b) in
    elim (cases_lt (6 * c.kernels.stages) g) [
      | inl past ↦ (a.reacted past low).sums.idle ∙ run_idle c.kernels c.start c.kernels.stages b f
      | inr within ↦ (a.stage (g / 6) (g % 6) (omega arith) (omega arith) within).sums.idle ∙ run_idle c.kernels c.start (g / 6) b f
    ]

-- some seat has what is out
seat_with : (o : Option ℕ) → is_some o ≡ true → (seat : ℕ) × (is_with seat o ≡ true)
seat_with None h = absurd (true_not_false (sym h))
  where
    true_not_false : true ≡ false → ⊥
    true_not_false e = subst (λ (b : Bool). cond b (Unit {0}) ⊥) e tt
seat_with (Some seat) h = (seat, eq-eqb seat seat refl)

first_letter : {X P : Type 0} (wire : List (Letter X P)) → 1 ≤ length wire → (number : ℕ) × (list_any (λ (l : Letter X P). l.number == number) wire ≡ true)
first_letter [] h = absurd (omega arith)
first_letter {X} {P} (l ∷ ls) h = (l.number, or_left (l.number == l.number) (list_any (λ (y : Letter X P). y.number == l.number) ls) (eq-eqb l.number l.number refl))

module _ {X V G F P W : Type 0} (c : Cycle X V G F P W) where
  goes_on : (events : List Event) → CanGoOn (plan c) (state_of c events) → GoesOn c events
  goes_on events (inl h) = record { can = inl h; event = entry_of c (state_of c events) (rounds.take 0 h.0); legal = legal_entry c (state_of c events) (rounds.take 0 h.0) h.1 }
  goes_on events (inr (inl h)) =
      let s = state_of c events in
      let w = seat_with (s.out h.0) h.2 in
      record {
        can = inr (inl h);
        event = entry_of c s (rounds.give w.0 h.0);
        legal = legal_entry c s (rounds.give w.0 h.0) (and_from (nat_lt h.0 c.kernels.lists) (is_with w.0 (s.out h.0)) (lt-ltb h.0 c.kernels.lists h.1) w.1);
      }
  goes_on events (inr (inr h)) =
      let s = state_of c events in
      let l = first_letter s.wire h in
      record { can = inr (inr h); event = entry_of c s (rounds.deliver 0 l.0); legal = legal_entry c s (rounds.deliver 0 l.0) l.1 }

pub never_stuck_now : (X V G F P W : Type 0) → NeverStuck X V G F P W
never_stuck_now X V G F P W c events laws h more =
    goes_on c events (never_stuck X (Local V G F W) (ℕ → P) (plan c) (machine c) (map forget events) (is_plan c.kernels laws.kernels) (history_is c (opening c) events h.legal) more)

-- a sum over twice as many, by pairs
by_pairs : (f : ℕ → ℕ) (pair : ℕ) → ((i : ℕ) → f (2 * i) + f (2 * i + 1) ≡ pair) → (a b n m : ℕ) → b ≡ 2 * a → m ≡ 2 * n → sum_by f (range_with_len b m) ≡ n * pair
by_pairs f pair h a b zero m eb em = subst (λ v. sum_by f (range_with_len b v) ≡ 0 * pair) (sym (nothing m em)) (none pair)
  where
    nothing : (m : ℕ) → m ≡ 2 * 0 → m ≡ 0
    nothing m e = omega arith

    none : (pair : ℕ) → 0 ≡ 0 * pair
    none pair = omega arith
by_pairs f pair h a b (suc n) m eb em =
    let first = sum_by-cons f b (range_with_len (b + 1) (suc (2 * n))) in
    let second = sum_by-cons f (b + 1) (range_with_len (b + 1 + 1) (2 * n)) in
    let rest = by_pairs f pair h (a + 1) (b + 1 + 1) n (2 * n) (omega arith) refl in
    let low = ap f eb in
    let high = ap (λ v. f (v + 1)) eb in
    let both = h a in
    ap (λ v. sum_by f (range_with_len b v)) (two_more n m em) ∙ (omega arith)
  where
    two_more : (n m : ℕ) → m ≡ 2 * suc n → m ≡ suc (suc (2 * n))
    two_more n m e = omega arith

-- the letters of all rounds: as many as of so many stages
due_in_all : {X V G F P W : Type 0} (c : Cycle X V G F P W) → all_due (plan c) ≡ c.kernels.stages * (length c.kernels.ghost_due + length c.kernels.flux_due)
due_in_all c =
    by_pairs (λ r. length (cond (r % 2 == 0) c.kernels.ghost_due c.kernels.flux_due)) (length c.kernels.ghost_due + length c.kernels.flux_due)
    (λ i.
    let a = ap (λ (v : Bool). length (cond v c.kernels.ghost_due c.kernels.flux_due)) (even_round c.kernels (2 * i) i refl) in
    let b = ap (λ (v : Bool). length (cond v c.kernels.ghost_due c.kernels.flux_due)) (odd_round c.kernels (2 * i + 1) i refl) in
    omega arith)
    0 0 c.kernels.stages (2 * c.kernels.stages) (omega arith) refl

pub events_are_counted : (X V G F P W : Type 0) → EventsAreCounted X V G F P W
events_are_counted X V G F P W c events laws h =
    let counted = events_counted X (Local V G F W) (ℕ → P) (plan c) (machine c) (map forget events) (is_plan c.kernels laws.kernels) (history_is c (opening c) events h.legal) in
    let letters = due_in_all c in
    let as_many = length-map events forget in
    record {
      longest = (let bound = counted.0 in omega arith);
      complete = λ done. (let exact = counted.1 done.done in omega arith);
    }
