-- A seat between turns.
use Rattle.std.specs.Prelude.{◌≡◌, false}
use Rattle.turn_yard.specs.Seat.{SeatState}
use Rattle.turn_yard.specs.Yard.{YardState}

-- the seat is of the yard, and holds no turn
abbrev pub IsFree : YardState → SeatState → Type 0
IsFree yard seat = (seat.yard ≡ yard.id) × (seat.holds ≡ false)
