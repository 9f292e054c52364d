-- What a journal tells of events.
use Rattle.std.specs.Prelude.{ℕ, ◌<◌, List, All}
use Rattle.cycle_events.specs.declared.event.Event.{Event}
use Rattle.cycle_events.specs.declared.event.Event.TheVariants.{Take, Give, Deliver}

-- the events of a journal, and how many more there is room for
pub record Entered : Type 0 where
  pub events : List Event
  pub spare : ℕ

-- the seat whose event it is
abbrev pub seat_of : Event → ℕ
seat_of (Take seat list task places) = seat
seat_of (Give seat list task made freed) = seat
seat_of (Deliver seat letter made) = seat

-- all seats are below a number
abbrev pub SeatsAreBelow : ℕ → List Event → Type 0
SeatsAreBelow seats events = All (λ (event : Event). seat_of event < seats) events
