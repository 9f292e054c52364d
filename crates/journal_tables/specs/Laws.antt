-- Tables follow every journal of a cycle.
use Rattle.std.specs.Prelude.{◌≡◌, ℕ, ◌<◌, true, Some, List, []}
use Rattle.std.specs.List.{AllZip}
use Rattle.cycle_rounds.specs.Events as rounds
use Rattle.cycle_rounds.specs.Events.{posted}
use Rattle.cycle_tables.specs.declared.letter.Letter.{Letter as Posted}
use Rattle.cycle_tables.specs.declared.letter.Post.{Post}
use Rattle.cycle_tables.specs.declared.list_state.Due.{Due}
use Rattle.cycle_tables.specs.Tables as tables
use Rattle.cycle_tables.specs.Tables.{Protocol, at_start, post_of}
use Rattle.cycle_table_laws.specs.Shows.{Says, WillStandFor}
use Rattle.cycle_table_laws.specs.Laws.{IsDueOf, TellsReadiness}
use Rattle.cycle_events.specs.declared.event.Event.{Event}
use Rattle.cycle_events.specs.Cycles.{Cycle, IsCycle, machine, next, plan, state_of}
use Rattle.journal_tables.specs.Follows.{DeliversNext, Follows, GivesNext, TakesNext, with_entry}

-- an event that may come leads from the state after a journal to the next one
abbrev pub StatesGoOn : (X V G F P W T : Type 0) → Type 0
StatesGoOn X V G F P W T = (c : Cycle X V G F P W) (of : T → X) (content : T → ℕ → P) (events : List Event)
    (e : rounds.Event) → state_of c (with_entry c (Says of content) events e) ≡ next c (state_of c events) e

-- the tables of a cycle that begins follow the journal without events
abbrev pub StartFollows : (X V G F P W T : Type 0) → Type 0
StartFollows X V G F P W T = (c : Cycle X V G F P W) (of : T → X) (content : T → ℕ → P) (due : List Due) →
    IsDueOf (plan c) due → Follows c (Says of content) [] (at_start (plan c).rounds (plan c).tail due)

-- what holds wherever tables follow a journal
abbrev pub InEach : (X V G F P W T : Type 0) →
    ((c : Cycle X V G F P W) → (T → X → (ℕ → P) → Type 0) → List Event → Protocol T → Type 0) → Type 0
InEach X V G F P W T Q = (c : Cycle X V G F P W) (of : T → X) (content : T → ℕ → P) (events : List Event) (v : Protocol T) →
    IsCycle c → Follows c (Says of content) events v → Q c (Says of content) events v

-- the tables tell which tasks may be taken, which letters are on the wire, and whether all is done
abbrev pub ReadinessFollows : (X V G F P W T : Type 0) → Type 0
ReadinessFollows X V G F P W T = InEach X V G F P W T (λ c R events v. TellsReadiness (plan c) (state_of c events) v)

abbrev pub TakesFollow : (X V G F P W T : Type 0) → Type 0
TakesFollow X V G F P W T = InEach X V G F P W T (λ c R events v. (seat i : ℕ) →
    tables.may_take v i ≡ true → TakesNext c R events v seat i)

abbrev pub GivesFollow : (X V G F P W T : Type 0) → Type 0
GivesFollow X V G F P W T = InEach X V G F P W T (λ c R events v. (seat i : ℕ) (letters : List (Post T)) →
    i < c.kernels.lists → (state_of c events).out i ≡ Some seat →
    AllZip (WillStandFor (plan c) R) letters (posted (plan c) (machine c) (state_of c events) i) →
    GivesNext c R events v seat i letters)

abbrev pub DeliveriesFollow : (X V G F P W T : Type 0) → Type 0
DeliveriesFollow X V G F P W T = InEach X V G F P W T (λ c R events v. (seat k : ℕ) (l : Posted T) →
    post_of v k ≡ Some l → DeliversNext c R events v seat k l)
