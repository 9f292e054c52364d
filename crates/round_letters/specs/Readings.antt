-- The letters that a reading of a list has.
use Rattle.std.specs.Prelude.{◌≡◌, ℕ, ◌/◌, ◌≤◌, true, is_some, List, count_by}
use Rattle.std.specs.List.{list_any}
use Rattle.cycle_rounds.specs.Plan.{IsPlan, Plan, is_due, is_reading}
use Rattle.cycle_rounds.specs.Events.{Each, Event, IsHistory, Letter, Machine, State, is_of, reads, replay}
use Rattle.cycle_table_laws.specs.Laws.{to_read}

-- a letter of the round that a list reads next, which is due to the list, and holds what the machine reads of it
pub record IsRead {X L P : Type 0} (p : Plan X) (m : Machine X L P) (s : State X L P) (i : ℕ) (l : Letter X P) : Type 0 where
  pub round : l.round ≡ s.given i / 3
  pub due : is_due p (s.given i / 3) l.of ≡ true
  pub reader : p.to l.of ≡ i
  pub held : reads p m s (s.given i / 3) l.of ≡ l.content

-- the letters of a reading are such, none is there twice, and all that are due to the list are there
pub record HasDueLetters {X L P : Type 0} (p : Plan X) (m : Machine X L P) (s : State X L P) (i : ℕ) : Type 0 where
  pub each : Each (IsRead p m s i) (to_read p s i)
  pub once : (x : X) → count_by (is_of p (s.given i / 3) x) (to_read p s i) ≤ 1
  pub all : (x : X) → is_due p (s.given i / 3) x ≡ true → p.to x ≡ i →
      list_any (is_of p (s.given i / 3) x) (to_read p s i) ≡ true

-- so it is while the reading is out
abbrev pub ReadingsHaveDueLetters : (X L P : Type 0) → Type 0
ReadingsHaveDueLetters X L P = (p : Plan X) (m : Machine X L P) (events : List Event) (i : ℕ) → IsPlan p →
    IsHistory p m events → is_reading p ((replay p m events).given i) ≡ true →
    is_some ((replay p m events).out i) ≡ true → HasDueLetters p m (replay p m events) i
