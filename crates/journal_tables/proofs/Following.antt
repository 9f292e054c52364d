-- Tables follow a journal from event to event.
use Rattle.std.proofs.Common.{arith, ◌+◌, ◌≡◌, ◌∙◌, ap, sym, subst, ℕ, ◌<◌, true, nat_lt, Option, Some, is_some, List, [], ◌∷◌, ◌++◌, map, refl}
use Rattle.std.specs.List.{AllZip}
use Rattle.std.proofs.lemmas.Bool.{and_from, eq-eqb, lt-ltb}
use Rattle.cycle_rounds.specs.Plan.{IsPlan}
use Rattle.cycle_rounds.specs.Events as rounds
use Rattle.cycle_rounds.specs.Events.{IsHistory, Letter, posted}
use Rattle.cycle_rounds.proofs.EventCounts.{sent_most}
use Rattle.cycle_rounds.proofs.GoOn.{never_stuck}
use Rattle.cycle_rounds.proofs.Orderly.{Orderly}
use Rattle.cycle_rounds.proofs.OrderlyKept.{replay_orderly}
use Rattle.cycle_rounds.proofs.OrderlySteps.{takes_is}
use Rattle.sparse_rounds.specs.Sparse.{Local}
use Rattle.sparse_pool.specs.declared.place.Place.{Place}
use Rattle.sparse_rounds.proofs.Clock.{is_plan}
use Rattle.cycle_tables.specs.declared.letter.Letter.{Letter as Posted}
use Rattle.cycle_tables.specs.declared.letter.Post.{Post}
use Rattle.cycle_tables.specs.declared.list_state.Due.{Due}
use Rattle.cycle_tables.specs.Tables as tables
use Rattle.cycle_tables.specs.Tables.{Protocol, at_start, post_of}
use Rattle.cycle_table_laws.specs.Shows.{Shows, WillStandFor}
use Rattle.cycle_table_laws.specs.Laws.{IsDueOf, TellsReadiness}
use Rattle.cycle_table_laws.proofs.Deliveries.{begins, delivers_as}
use Rattle.cycle_table_laws.proofs.Givings.{gives_as}
use Rattle.cycle_table_laws.proofs.Readies.{tells}
use Rattle.cycle_table_laws.proofs.Takings.{takes_as}
use Rattle.cycle_table_laws.proofs.Wires.{TakenOff, taken_off}
use Rattle.cycle_events.specs.declared.event.Event.{Event}
use Rattle.cycle_events.specs.declared.event.Event.TheVariants.{Deliver}
use Rattle.cycle_events.specs.Cycles.{Cycle, IsCycle, StateOf, forget, machine, next, opening, plan, state_of}
use Rattle.cycle_events.specs.Journals.{IsJournal, entry_of}
use Rattle.cycle_events.proofs.Deliveries.{delivery_makes}
use Rattle.cycle_events.proofs.Gives.{gives_make}
use Rattle.cycle_events.proofs.Histories.{forget_entry, history_is, legal_entry, legal_from, state_after}
use Rattle.journal_tables.specs.Follows.{DeliversNext, Follows, GivesNext, TakesNext, with_entry}

-- an event leads from the state after a journal to the next one
pub state_next : {X V G F P W T : Type 0} (c : Cycle X V G F P W) (R : T → X → (ℕ → P) → Type 0) (events : List Event) (e : rounds.Event) →
    state_of c (with_entry c R events e) ≡ next c (state_of c events) e
state_next c R events e =
    state_after c (opening c) events (entry_of c (state_of c events) e ∷ []) ∙ ap (next c (state_of c events)) (forget_entry c (state_of c events) e)

pub start_follows : {X V G F P W T : Type 0} (c : Cycle X V G F P W) (R : T → X → (ℕ → P) → Type 0) (due : List Due) → IsDueOf (plan c) due →
    Follows c R [] (at_start (plan c).rounds (plan c).tail due)
start_follows c R due d = record { journal = record { legal = tt }; tables = begins (plan c) (machine c) R due d }

module _ {X V G F P W T : Type 0} (c : Cycle X V G F P W) (laws : IsCycle c) (R : T → X → (ℕ → P) → Type 0) (events : List Event) (v : Protocol T) (h : Follows c R events v) where
  abbrev s : StateOf X V G F P W
  s = state_of c events

  plan_is : IsPlan (plan c)
  plan_is = is_plan c.kernels laws.kernels

  history : IsHistory (plan c) (machine c) (map forget events)
  history = history_is c (opening c) events h.journal.legal

  orderly : Orderly (plan c) (state_of c events)
  orderly = replay_orderly (plan c) (machine c) plan_is (map forget events) history

  pub journal_next : (e : rounds.Event) → rounds.is_legal (plan c) (state_of c events) e ≡ true → IsJournal c (with_entry c R events e)
  journal_next e legal = record {
    legal = legal_from c (opening c) events (entry_of c (state_of c events) e ∷ []) h.journal.legal (legal_entry c (state_of c events) e legal, tt);
  }

  follows_next : (e : rounds.Event) (w : Protocol T) → rounds.is_legal (plan c) (state_of c events) e ≡ true → Shows (plan c) R (next c (state_of c events) e) w →
      Follows c R (with_entry c R events e) w
  follows_next e w legal shows = record {
    journal = journal_next e legal;
    tables = subst (λ (t : StateOf X V G F P W). Shows (plan c) R t w) (sym (state_next c R events e)) shows;
  }

  pub tells_next : TellsReadiness (plan c) (state_of c events) v
  tells_next = tells (plan c) plan_is R (state_of c events) orderly (never_stuck X (Local V G F W) (ℕ → P) (plan c) (machine c) (map forget events) plan_is history) v h.tables

  pub takes_next : (seat i : ℕ) → tables.may_take v i ≡ true → TakesNext c R events v seat i
  takes_next seat i may =
      let may_now : rounds.may_take (plan c) (state_of c events) i ≡ true = sym (tells_next.ready i) ∙ may in
      let t = takes_as (plan c) plan_is (machine c) R (state_of c events) orderly v h.tables seat i may_now in
      let can = takes_is (plan c) (state_of c events) i may_now in
      record {
        list = can.list;
        given = h.tables.given i can.list;
        none_coming = t.none_coming;
        letters = t.letters;
        follows = follows_next (rounds.take seat i) (tables.taken v i seat) may_now t.shows;
      }

  legal_give : (seat i : ℕ) → i < c.kernels.lists → (state_of c events).out i ≡ Some seat → rounds.is_legal (plan c) (state_of c events) (rounds.give seat i) ≡ true
  legal_give seat i list out =
      and_from (nat_lt i c.kernels.lists) (rounds.is_with seat ((state_of c events).out i)) (lt-ltb i c.kernels.lists list)
      (ap (rounds.is_with seat) out ∙ eq-eqb seat seat refl)

  pub gives_next : (seat i : ℕ) (letters : List (Post T)) → i < c.kernels.lists → (state_of c events).out i ≡ Some seat →
      AllZip (WillStandFor (plan c) R) letters (posted (plan c) (machine c) (state_of c events) i) → GivesNext c R events v seat i letters
  gives_next seat i letters list out stand =
      let legal = legal_give seat i list out in
      let g = gives_as (plan c) plan_is (machine c) R (state_of c events) v h.tables seat i legal letters stand
      (sent_most (plan c) (machine c) (map forget events) (rounds.give seat i) history legal) in
      record {
        list = g.list;
        given = h.tables.given i list;
        out = g.out;
        sends = g.sends;
        receivers = g.receivers;
        numbers = g.numbers;
        changes = gives_make X V G F P W c events seat i laws h.journal (ap (λ (o : Option ℕ). is_some o) out);
        follows = follows_next (rounds.give seat i) (tables.given v i letters) legal g.shows;
      }

  pub delivers_next : (seat k : ℕ) (l : Posted T) → post_of v k ≡ Some l → DeliversNext c R events v seat k l
  delivers_next seat k l is =
      let off = subst (λ n. TakenOff (plan c) R n v.posts (state_of c events).wire k l) (let z : 0 + k ≡ k = omega arith in z)
      (taken_off (plan c) R 0 v.posts (state_of c events).wire k l (λ j x f. let n = h.tables.numbers j x f in omega arith) h.tables.wire is) in
      let there : rounds.is_legal (plan c) (state_of c events) (rounds.deliver seat k) ≡ true = tells_next.wire k ∙ ap (λ (o : Option (Posted T)). is_some o) is in
      let d = delivers_as (plan c) plan_is (machine c) R (state_of c events) orderly v h.tables seat k l is in
      record {
        letter = off.letter;
        found = off.found;
        stands = off.stands;
        place = d.place;
        follows = subst (λ (made : List Place). Follows c R (events ++ Deliver seat k made ∷ []) (tables.delivered v k))
            (delivery_makes c (state_of c events) seat k off.letter off.found)
            (follows_next (rounds.deliver seat k) (tables.delivered v k) there d.shows);
      }
