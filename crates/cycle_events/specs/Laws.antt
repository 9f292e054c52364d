-- What every journal keeps.
use Rattle.std.specs.Prelude.{◌≡◌, ℕ, ◌+◌, ◌*◌, ◌<◌, ◌≤◌, false, is_some, List, [], ◌∷◌, ◌++◌, length, map}
use Rattle.cycle_rounds.specs.Events as rounds
use Rattle.cycle_rounds.specs.Events.{Each, IsHistory, Letter}
use Rattle.cycle_rounds.specs.Protocol.{CanGoOn}
use Rattle.sparse_rounds.specs.Masked.{touched}
use Rattle.sparse_rounds.specs.Agreement.{Agrees, LetterAgrees}
use Rattle.sparse_rounds.specs.Laws.{EndsAs}
use Rattle.cycle_events.specs.declared.event.Event.{Event}
use Rattle.cycle_events.specs.Cycles.{Cycle, IsCycle, StateOf, forget, machine, plan, state_of}
use Rattle.cycle_events.specs.Places.{has_buffer}
use Rattle.cycle_events.specs.Journals.{IsComplete, IsJournal, IsLegal, journal_of}

-- without its tasks and places a journal is a history of the protocol
abbrev pub JournalsAreHistories : (X V G F P W : Type 0) → Type 0
JournalsAreHistories X V G F P W =
    (c : Cycle X V G F P W) (events : List Event) → IsJournal c events →
    IsHistory (plan c) (machine c) (map forget events)

-- the journal that tells a history; no other one does
pub record Tells {X V G F P W : Type 0} (c : Cycle X V G F P W) (history : List rounds.Event) (events : List Event)
    : Type 0 where
  pub journal : IsJournal c events
  pub same : map forget events ≡ history
  pub only : (other : List Event) → IsJournal c other → map forget other ≡ history → other ≡ events

abbrev pub HistoriesAreTold : (X V G F P W : Type 0) → Type 0
HistoriesAreTold X V G F P W =
    (c : Cycle X V G F P W) (history : List rounds.Event) → IsHistory (plan c) (machine c) history →
    Tells c history (journal_of c history)

-- an event may follow a journal exactly where it is legal in the state that the journal leads to
pub record GoesOnWith {X V G F P W : Type 0} (c : Cycle X V G F P W) (events : List Event) (event : Event)
    : Type 0 where
  pub entered : IsLegal c (state_of c events) event → IsJournal c (events ++ event ∷ [])
  pub legal : IsJournal c (events ++ event ∷ []) → IsLegal c (state_of c events) event

abbrev pub JournalsGoOn : (X V G F P W : Type 0) → Type 0
JournalsGoOn X V G F P W =
    (c : Cycle X V G F P W) (events : List Event) (event : Event) → IsJournal c events → GoesOnWith c events event

-- a state whose places and letters agree with the masked serial run, as far as their lists have come
pub record IsMasked {X V G F P W : Type 0} (c : Cycle X V G F P W) (s : StateOf X V G F P W) : Type 0 where
  pub places : (b f : ℕ) → Agrees c.kernels c.start (s.given (c.kernels.owner b))
      (is_some (s.out (c.kernels.owner b))) (s.local (c.kernels.owner b)) b f
  pub letters : Each (λ (l : Letter X (ℕ → P)). LetterAgrees c.kernels c.start l.round l.of l.content)
      (s.wire ++ s.mail)
  -- where the list of a block has done all stages and no more, its buffers are those that the exchanges called for
  pub buffers : (b f : ℕ) → s.given (c.kernels.owner b) ≡ 6 * c.kernels.stages →
      has_buffer c s b f ≡ touched c.kernels c.start c.kernels.stages b f

abbrev pub JournalsStayMasked : (X V G F P W : Type 0) → Type 0
JournalsStayMasked X V G F P W =
    (c : Cycle X V G F P W) (events : List Event) → IsCycle c → IsJournal c events → IsMasked c (state_of c events)

-- until a list has given its check, the idle counts of its places are those of the start
abbrev pub IdleCountsWait : (X V G F P W : Type 0) → Type 0
IdleCountsWait X V G F P W =
    (c : Cycle X V G F P W) (events : List Event) (b f : ℕ) → IsCycle c → IsJournal c events →
    (state_of c events).given (c.kernels.owner b) < 6 * c.kernels.stages + 3 →
    ((state_of c events).local (c.kernels.owner b)).idle b f ≡ c.start.idle b f

-- every complete journal ends as the masked serial run does
abbrev pub JournalsEndMasked : (X V G F P W : Type 0) → Type 0
JournalsEndMasked X V G F P W =
    (c : Cycle X V G F P W) (events : List Event) → IsCycle c → IsComplete c events → (b f : ℕ) →
    EndsAs c.kernels c.start ((state_of c events).local (c.kernels.owner b)) b f

-- a journal that can go on: a task may be taken, one is out, or a letter is on the wire; so some event is legal
pub record GoesOn {X V G F P W : Type 0} (c : Cycle X V G F P W) (events : List Event) : Type 0 where
  pub can : CanGoOn (plan c) (state_of c events)
  pub event : Event
  pub legal : IsLegal c (state_of c events) event

abbrev pub NeverStuck : (X V G F P W : Type 0) → Type 0
NeverStuck X V G F P W =
    (c : Cycle X V G F P W) (events : List Event) → IsCycle c → IsJournal c events →
    rounds.is_complete (plan c) (state_of c events) ≡ false → GoesOn c events

-- how many events a complete journal has: two for each task of a list, and one for each letter of a stage
abbrev pub event_count : {X V G F P W : Type 0} → Cycle X V G F P W → ℕ
event_count c =
    2 * (c.kernels.lists * (6 * c.kernels.stages + 3))
    + c.kernels.stages * (length c.kernels.ghost_due + length c.kernels.flux_due)

pub record IsCounted {X V G F P W : Type 0} (c : Cycle X V G F P W) (events : List Event) : Type 0 where
  pub longest : length events ≤ event_count c
  pub complete : IsComplete c events → length events ≡ event_count c

abbrev pub EventsAreCounted : (X V G F P W : Type 0) → Type 0
EventsAreCounted X V G F P W =
    (c : Cycle X V G F P W) (events : List Event) → IsCycle c → IsJournal c events → IsCounted c events
