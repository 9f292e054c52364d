-- How contracts see a seat and a yard, and what always holds of the parts of one. These serve the two types' own `Model`s, and the private functions beneath them.
use Rattle.std.specs.List.{All}
use Rattle.std.specs.Prelude.{◌≡◌, ℕ, suc, if◌then◌else◌, Bool, true, false, List, [], ◌∷◌, length, replicate, Option, Some, None}
use Rattle.atomic_table.specs.Seated.{TableId}
use Rattle.atomic_table.specs.Table.{Me}
use Rattle.atomic_table.specs.declared.shared.Seat.{Seat}
use Rattle.turn_yard.specs.Rule.{keeper, Knows}
use Rattle.turn_yard.specs.Seat.{SeatState}
use Rattle.turn_yard.specs.Tells.{Tells}
use Rattle.turn_yard.specs.Yard.{YardState, IsOfSeat}
use Rattle.turn_yard.specs.declared.view.Known.{Known}
use Rattle.turn_yard.specs.declared.view.View.{View}

abbrev pub seat_state : TableId → View → SeatState
seat_state id v = record { yard = id; number = v.known.number; origin = v.known.origin; seen = v.known.seen; own = v.known.own; noted = v.known.noted; holds = v.holds }

abbrev pub known_of : SeatState → Known
known_of s = record { number = s.number; origin = s.origin; seen = s.seen; own = s.own; noted = s.noted }

-- the seat of a worker, with the emptied slot exactly where it holds the turn
pub record IsSeat {T : Type 0} (id : TableId) (me : Me (Option T) View) (number : ℕ) : Type 0 where
  pub in_use : me.0.in_use ≡ true
  pub number_is : me.0.known.number ≡ number
  pub count : suc (length me.0.known.noted) ≡ id.words
  pub slot : me.1 ≡ (if me.0.holds then (0, None) ∷ [] else [])

-- the one view that the yard has of its own
abbrev pub own_view : List View → View
own_view [] = keeper [] []
own_view (v ∷ vs) = v

abbrev pub yard_state : TableId → List View → ℕ → YardState
yard_state id views made = record { id = id; origin = (own_view views).known.origin; parts = length (own_view views).known.noted; made = made }

-- the yard's own seat is the first one, and no seat has returned
pub record IsYard (id seat_id : TableId) (number : ℕ) (views : List View) (made parts : ℕ) : Type 0 where
  pub table : seat_id ≡ id
  pub first : number ≡ 0
  pub one : views ≡ own_view views ∷ []
  pub not_used : (own_view views).in_use ≡ false
  pub noted : (own_view views).known.noted ≡ replicate (length (own_view views).known.noted) 0
  pub words : id.words ≡ suc (length (own_view views).known.noted)
  pub slots : id.slots ≡ 1
  pub parts_is : length (own_view views).known.noted ≡ parts
  pub made_is : (own_view views).made ≡ made
  pub returned : (own_view views).returned ≡ []

-- the seat of the worker with the number, with these slots
pub record IsNumbered {T : Type 0} (me : Me (Option T) View) (number : ℕ) (holds : Bool) (slots : List (ℕ × Option T)) : Type 0 where
  pub in_use : me.0.in_use ≡ true
  pub number_is : me.0.known.number ≡ number
  pub holds_is : me.0.holds ≡ holds
  pub slots_are : me.1 ≡ slots

-- it is a seat of the same table, at the same place
pub record Keeps {T : Type 0} (before after : Seat (Option T) View) : Type 0 where
  pub table : after.table_id ≡ before.table_id
  pub id : after.id ≡ before.id

-- the last value, with all that returned seats knew
pub record IsLast {T : Type 0} (t : Tells T) (own : View) (value : T) : Type 0 where
  pub origin : t.origin value ≡ own.known.origin
  pub known : All (Knows own.known.origin (t.entries value) (t.marks value)) own.returned
  pub made : All (IsOfSeat own.made) (t.entries value)
