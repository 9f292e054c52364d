-- What contracts see of a yard, and of all its seats at its end.
use Rattle.std.specs.Prelude.{◌≡◌, ℕ, ◌<◌, Bool, true, false, List, [], replicate, All, Any}
use Rattle.atomic_table.specs.Seated.{TableId}
use Rattle.turn_yard.specs.History.{Entry, bears, entries_of, StartsWith, NoneFalls}
use Rattle.turn_yard.specs.Seat.{SeatState}

pub record YardState : Type 0 where
  -- which yard it is
  pub id : TableId
  -- the origin of its value, and how many marks that has
  pub origin : List ℕ
  pub parts : ℕ
  -- how many seats it made
  pub made : ℕ

-- a seat that has just been made
abbrev pub fresh_seat : YardState → SeatState
fresh_seat yard = record { yard = yard.id; number = yard.made; origin = yard.origin; seen = []; own = []; noted = replicate yard.parts 0; holds = false }

-- the yard made the seat, which does not hold the turn
abbrev pub IsIdleSeat : TableId → SeatState → Type 0
IsIdleSeat id seat = (seat.yard ≡ id) × (seat.holds ≡ false)

-- these are all seats that the yard made, and none holds the turn
pub record AreAllSeats (yard : YardState) (seats : List SeatState) : Type 0 where
  pub of_yard : All (IsIdleSeat yard.id) seats
  pub each_number : (number : ℕ) → number < yard.made → Any (λ s. s.number ≡ number) seats

-- the last value has all that a seat had seen at its front, the seat's own entries and no others of its number, and no mark below one that it noted
pub record Ends (entries : List Entry) (marks : List ℕ) (seat : SeatState) : Type 0 where
  pub seen : StartsWith entries seat.seen
  pub own : entries_of seat.number entries ≡ seat.own
  pub noted : NoneFalls seat.noted marks

-- the entry bears the number of one of the seats that were made
abbrev pub IsOfSeat : ℕ → Entry → Type 0
IsOfSeat made entry = (number : ℕ) × (number < made) × (bears number entry ≡ true)
