-- Tables that follow a journal: what an event asks of them, and what it makes of both.
use Rattle.std.specs.Prelude.{◌≡◌, ◌==◌, ℕ, ◌+◌, ◌<◌, ◌≤◌, true, false, Some, is_some, List, [], ◌∷◌, ◌++◌, length, find, All}
use Rattle.std.specs.List.{AllZip}
use Rattle.cycle_rounds.specs.Events as rounds
use Rattle.cycle_rounds.specs.Events.{Letter}
use Rattle.cycle_rounds.specs.Protocol.{all_due}
use Rattle.cycle_tables.specs.declared.letter.Letter.{Letter as Posted}
use Rattle.cycle_tables.specs.declared.letter.Post.{Post}
use Rattle.cycle_tables.specs.Tables as tables
use Rattle.cycle_tables.specs.Tables.{GoesTo, HasPlace, NoneComing, Protocol, delivered, is_sending, letters_of, taken}
use Rattle.cycle_table_laws.specs.Shows.{Shows, StandsFor}
use Rattle.cycle_table_laws.specs.Laws.{to_read}
use Rattle.cycle_events.specs.declared.event.Event.{Event}
use Rattle.cycle_events.specs.declared.event.Event.TheVariants.{Deliver}
use Rattle.cycle_events.specs.Cycles.{Cycle, plan, state_of}
use Rattle.cycle_events.specs.Changes.{IsGiving, made_by_letter}
use Rattle.cycle_events.specs.Journals.{IsJournal, entry_of}

module _ {X V G F P W T : Type 0} (c : Cycle X V G F P W) (R : T → X → (ℕ → P) → Type 0) where
  -- a journal, and tables that show the state that it leads to
  pub record Follows (events : List Event) (v : Protocol T) : Type 0 where
    pub journal : IsJournal c events
    pub tables : Shows (plan c) R (state_of c events) v

  -- a journal with the entry of one more event
  abbrev pub with_entry : List Event → rounds.Event → List Event
  with_entry events e = events ++ entry_of c (state_of c events) e ∷ []

  -- a seat takes the next task of a list: no letter for it is still to come, and the tables hand it those that it reads
  pub record TakesNext (events : List Event) (v : Protocol T) (seat i : ℕ) : Type 0 where
    pub list : i < c.kernels.lists
    pub given : (tables.state_of v i).given ≡ (state_of c events).given i
    pub none_coming : NoneComing v i
    pub letters : AllZip (StandsFor (plan c) R) (letters_of v i) (to_read (plan c) (state_of c events) i)
    pub follows : Follows (with_entry events (rounds.take seat i)) (taken v i seat)

  -- it gives the work on its task, with letters: the tables can take them
  pub record GivesNext (events : List Event) (v : Protocol T) (seat i : ℕ) (letters : List (Post T)) : Type 0 where
    pub list : i < length v.lists
    pub given : (tables.state_of v i).given ≡ (state_of c events).given i
    pub out : is_some (tables.state_of v i).out ≡ true
    pub sends : is_sending v.rounds (tables.state_of v i).given ≡ false → letters ≡ []
    pub receivers : All (GoesTo (length v.lists)) letters
    pub numbers : length v.posts + length letters ≤ all_due (plan c)
    pub changes : IsGiving c (state_of c events) seat i
    pub follows : Follows (with_entry events (rounds.give seat i)) (tables.given v i letters)

  -- a letter is delivered: the tables have a place for it, and it is the one of its number on the wire
  pub record DeliversNext (events : List Event) (v : Protocol T) (seat k : ℕ) (l : Posted T) : Type 0 where
    pub letter : Letter X (ℕ → P)
    pub found : find (λ (y : Letter X (ℕ → P)). y.number == k) (state_of c events).wire ≡ Some letter
    pub stands : StandsFor (plan c) R l letter
    pub place : HasPlace v l
    pub follows :
        Follows (events ++ Deliver seat k (made_by_letter c (state_of c events) letter) ∷ []) (delivered v k)
