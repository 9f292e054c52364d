-- The journals of a cycle: which events may come, and what they tell.
use Rattle.std.specs.Prelude.{◌≡◌, true, List, [], ◌∷◌}
use Rattle.cycle_rounds.specs.Events as rounds
use Rattle.cycle_events.specs.declared.event.Event.{Event}
use Rattle.cycle_events.specs.declared.event.Event.TheVariants.{Take, Give, Deliver}
use Rattle.cycle_events.specs.Cycles.{Cycle, StateOf, forget, next, opening, plan, state_of}
use Rattle.cycle_events.specs.Places.{freed_by, kind_of, listed, made_by}

module _ {X V G F P W : Type 0} (c : Cycle X V G F P W) where
  -- what a journal tells of an event in the state in which it comes: the task is the list's next one, a Take has the
  -- places with a buffer of the fields of the task's kind, a Give and a Deliver those at which buffers come and go
  abbrev pub entry_of : StateOf X V G F P W → rounds.Event → Event
  entry_of s (rounds.take seat list) =
      Take seat list (s.given list) (listed c s list (kind_of c.kernels (s.given list)))
  entry_of s (rounds.give seat list) =
      Give seat list (s.given list) (made_by c s (rounds.give seat list)) (freed_by c s (rounds.give seat list))
  entry_of s (rounds.deliver seat letter) =
      Deliver seat letter (made_by c s (rounds.deliver seat letter))

  -- an event that may come next and tells what it does
  pub record IsLegal (s : StateOf X V G F P W) (event : Event) : Type 0 where
    pub may_come : rounds.is_legal (plan c) s (forget event) ≡ true
    pub told : event ≡ entry_of s (forget event)

  -- events each of which is legal where it comes
  abbrev pub AreLegal : StateOf X V G F P W → List Event → Type 0
  AreLegal s [] = Unit {0}
  AreLegal s (event ∷ more) = IsLegal s event × AreLegal (next c s (forget event)) more

  -- a journal: events that are legal from the opening on
  pub record IsJournal (events : List Event) : Type 0 where
    pub legal : AreLegal (opening c) events

  -- a complete one: all lists have given all tasks, and no letter is on the wire
  pub record IsComplete (events : List Event) : Type 0 where
    pub journal : IsJournal events
    pub done : rounds.is_complete (plan c) (state_of c events) ≡ true

  -- the journal that tells events of the protocol
  abbrev pub journal_from : StateOf X V G F P W → List rounds.Event → List Event
  journal_from s [] = []
  journal_from s (e ∷ more) = entry_of s e ∷ journal_from (next c s e) more

  abbrev pub journal_of : List rounds.Event → List Event
  journal_of history = journal_from (opening c) history
