use Rattle.std.proofs.Common.{◌≡◌, vec_len, map, ◌++◌, [], List}
use Rattle.std.specs.List.{All}
use Rattle.turn_yard.specs.Inside.{Keeps, known_of}
use Rattle.turn_yard.specs.Seat.{SeatState}
use Rattle.turn_yard.specs.Yard.{IsIdleSeat}
use Rattle.turn_yard.proofs.turns.returned.Given as goal

-- the seats that are back, behind those that are not
abbrev pub invariant-loop-seat : goal.invariant-loop-seat
invariant-loop-seat g l =
    Keeps l.initial.own l.own × All (IsIdleSeat l.shared.table_id) l.seats.items
    × ((back : List SeatState) × (l.fn.seats.items ≡ l.seats.items ++ back) × (l.own.me ≡ (record l.initial.own.me.0 { returned = map known_of back }, [])))

abbrev pub decreases-loop-seat : goal.decreases-loop-seat
decreases-loop-seat g l = vec_len l.seats
