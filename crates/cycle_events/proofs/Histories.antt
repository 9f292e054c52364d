-- Journals and histories tell each other.
use Rattle.std.proofs.Common.{◌≡◌, true, List, [], ◌∷◌, ◌++◌, map, refl, ap, sym, subst, ◌∙◌}
use Rattle.std.proofs.lemmas.Bool.{and_from, and_parts}
use Rattle.cycle_rounds.specs.Events as rounds
use Rattle.cycle_rounds.specs.Events.{IsHistory, after, are_legal}
use Rattle.cycle_events.specs.declared.event.Event.{Event}
use Rattle.cycle_events.specs.Cycles.{Cycle, StateOf, forget, machine, next, opening, plan}
use Rattle.cycle_events.specs.Journals.{AreLegal, IsJournal, IsLegal, entry_of, journal_from}
use Rattle.cycle_events.specs.Laws.{HistoriesAreTold, JournalsAreHistories, JournalsGoOn}

module _ {X V G F P W : Type 0} (c : Cycle X V G F P W) where
  -- the state after events in two parts
  pub state_after : (s : StateOf X V G F P W) (first more : List Event) →
      after (plan c) (machine c) s (map forget (first ++ more)) ≡ after (plan c) (machine c) (after (plan c) (machine c) s (map forget first)) (map forget more)
  state_after s [] more = refl
  state_after s (e ∷ es) more = state_after (next c s (forget e)) es more

  -- legal events in two parts
  pub legal_parts : (s : StateOf X V G F P W) (first more : List Event) → AreLegal c s (first ++ more) →
      AreLegal c s first × AreLegal c (after (plan c) (machine c) s (map forget first)) more
  legal_parts s [] more h = (tt, h)
  legal_parts s (e ∷ es) more h = let r = legal_parts (next c s (forget e)) es more h.1 in ((h.0, r.0), r.1)

  pub legal_from : (s : StateOf X V G F P W) (first more : List Event) → AreLegal c s first →
      AreLegal c (after (plan c) (machine c) s (map forget first)) more → AreLegal c s (first ++ more)
  legal_from s [] more h k = k
  legal_from s (e ∷ es) more h k = (h.0, legal_from (next c s (forget e)) es more h.1 k)

  pub journal_parts : (first more : List Event) → IsJournal c (first ++ more) → IsJournal c first
  journal_parts first more h = record { legal = (legal_parts (opening c) first more h.legal).0 }

  -- a legal list of events without its places is legal
  pub history_is : (s : StateOf X V G F P W) (events : List Event) → AreLegal c s events → are_legal (plan c) (machine c) s (map forget events) ≡ true
  history_is s [] h = refl
  history_is s (e ∷ es) h =
      and_from (rounds.is_legal (plan c) s (forget e)) (are_legal (plan c) (machine c) (next c s (forget e)) (map forget es)) h.0.may_come (history_is (next c s (forget e)) es h.1)

  pub forget_entry : (s : StateOf X V G F P W) (e : rounds.Event) → forget (entry_of c s e) ≡ e
  forget_entry s (rounds.take seat list) = refl
  forget_entry s (rounds.give seat list) = refl
  forget_entry s (rounds.deliver seat letter) = refl

  pub legal_entry : (s : StateOf X V G F P W) (e : rounds.Event) → rounds.is_legal (plan c) s e ≡ true → IsLegal c s (entry_of c s e)
  legal_entry s (rounds.take seat list) h = record { may_come = h; told = refl }
  legal_entry s (rounds.give seat list) h = record { may_come = h; told = refl }
  legal_entry s (rounds.deliver seat letter) h = record { may_come = h; told = refl }

  -- a legal history as it is told
  legal_told : (s : StateOf X V G F P W) (history : List rounds.Event) → are_legal (plan c) (machine c) s history ≡ true → AreLegal c s (journal_from c s history)
  legal_told s [] h = tt
  legal_told s (e ∷ es) h =
      let parts = and_parts (rounds.is_legal (plan c) s e) (are_legal (plan c) (machine c) (next c s e) es) h in
      (legal_entry s e parts.0, subst (λ v. AreLegal c (next c s v) (journal_from c (next c s e) es)) (sym (forget_entry s e)) (legal_told (next c s e) es parts.1))

  forget_told : (s : StateOf X V G F P W) (history : List rounds.Event) → map forget (journal_from c s history) ≡ history
  forget_told s [] = refl
  forget_told s (e ∷ es) =
      ap (λ (v : rounds.Event). v ∷ map forget (journal_from c (next c s e) es)) (forget_entry s e) ∙ ap (λ (v : List rounds.Event). e ∷ v) (forget_told (next c s e) es)

  -- legal events are told by themselves without their places
  only_told : (s : StateOf X V G F P W) (events : List Event) → AreLegal c s events → events ≡ journal_from c s (map forget events)
  only_told s [] h = refl
  only_told s (e ∷ es) h =
      ap (λ (v : Event). v ∷ es) h.0.told ∙ ap (λ (v : List Event). entry_of c s (forget e) ∷ v) (only_told (next c s (forget e)) es h.1)

pub journals_are_histories : (X V G F P W : Type 0) → JournalsAreHistories X V G F P W
journals_are_histories X V G F P W c events h = history_is c (opening c) events h.legal

pub histories_are_told : (X V G F P W : Type 0) → HistoriesAreTold X V G F P W
histories_are_told X V G F P W c history h = record {
  journal = record { legal = legal_told c (opening c) history h };
  same = forget_told c (opening c) history;
  only = λ other journal same. only_told c (opening c) other journal.legal ∙ ap (journal_from c (opening c)) same;
}

pub journals_go_on : (X V G F P W : Type 0) → JournalsGoOn X V G F P W
journals_go_on X V G F P W c events event journal = record {
  entered = λ legal. record { legal = legal_from c (opening c) events (event ∷ []) journal.legal (legal, tt) };
  legal = λ h. (legal_parts c (opening c) events (event ∷ []) h.legal).1.0;
}
