-- What contracts see of a worker's seat.
use Rattle.std.specs.Prelude.{ℕ, Bool, List}
use Rattle.atomic_table.specs.Seated.{TableId}
use Rattle.turn_yard.specs.History.{Entry}

pub record SeatState : Type 0 where
  -- the yard that made it, and its number there
  pub yard : TableId
  pub number : ℕ
  -- the origin of the yard's value
  pub origin : List ℕ
  -- the history that it saw last, and the entries that it added
  pub seen : List Entry
  pub own : List Entry
  -- the marks that it noted last
  pub noted : List ℕ
  -- whether it holds the turn
  pub holds : Bool
