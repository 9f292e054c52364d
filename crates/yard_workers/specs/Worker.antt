-- What contracts see of workers: their seats between turns, and how they end.
use Rattle.std.specs.Prelude.{◌≡◌, ℕ, ◌<◌, true, false, List, length, Option, IfSome, IsSome}
use Rattle.turn_yard.specs.History.{Entry, entries_of, StartsWith}
use Rattle.turn_yard.specs.Seat.{SeatState}
use Rattle.turn_yard.specs.Yard.{YardState}
use Rattle.yard_workers.specs.Machine.{Was}
use Rattle.yard_workers.specs.declared.turn.Next.{Next}
use Rattle.yard_workers.specs.declared.turn.Next.TheVariants.{Work, Again, Ends}
use Rattle.yard_workers.specs.declared.worker.End.{End}
use Rattle.yard_workers.specs.declared.worker.End.TheVariants.{Done, Stopped}

-- the seat is of the yard and holds no turn; its own entries are those of its number in what it has seen
pub record IsBetweenTurns (yard : YardState) (seat : SeatState) : Type 0 where
  pub of_yard : seat.yard ≡ yard.id
  pub free : seat.holds ≡ false
  pub origin : seat.origin ≡ yard.origin
  pub marks : length seat.noted ≡ yard.parts
  pub own : seat.own ≡ entries_of seat.number seat.seen

-- the seat later: it has its number, and has seen all that it had seen
pub record IsLater (yard : YardState) (before after : SeatState) : Type 0 where
  pub between : IsBetweenTurns yard after
  pub number : after.number ≡ before.number
  pub seen : StartsWith after.seen before.seen

-- a worker that ends as done has seen a complete history
abbrev pub Ended : (List Entry → Type 0) → List Entry → End → Type 0
Ended complete seen Done = Was complete seen
Ended complete seen Stopped = true ≡ true

-- what a worker does next, once its seat has seen this history
abbrev pub IsNext : {L : Type 0} → (List ℕ → List Entry → ℕ → L → Type 0) → (List ℕ → List Entry → Type 0) → (List ℕ → ℕ) → SeatState → Next L → Type 0
IsNext leased complete parts seat (Work lease partition task) = leased seat.origin seat.seen seat.number lease × (partition < parts seat.origin)
IsNext leased complete parts seat Again = true ≡ true
IsNext leased complete parts seat (Ends end) = Ended (complete seat.origin) seat.seen end

-- the worker ended, and its seat is later
pub record HasWorked (complete : List Entry → Type 0) (yard : YardState) (before after : SeatState) (end : Option End) : Type 0 where
  pub later : IsLater yard before after
  pub ended : IfSome end (Ended complete after.seen)
  pub some : IsSome end
