-- The workers of a yard before and after their work. These serve private functions of the run.
use Rattle.std.specs.Prelude.{◌≡◌, ℕ, ◌+◌, ◌<◌, ◌≤◌, ◌⊎◌, List, length, All, Any, Option, Some, None}
use Rattle.turn_yard.specs.History.{Entry}
use Rattle.turn_yard.specs.Seat.{SeatState}
use Rattle.turn_yard.specs.Yard.{YardState, IsIdleSeat}
use Rattle.yard_workers.specs.Machine.{Was}
use Rattle.yard_workers.specs.Worker.{IsBetweenTurns}
use Rattle.yard_workers.specs.declared.worker.End.{End}
use Rattle.yard_workers.specs.declared.worker.End.TheVariants.{Done, Stopped}

-- one worker at each seat that the yard made
pub record AreSeated {W : Type 0} (seat_of : W → SeatState) (yard : YardState) (workers : List W) : Type 0 where
  pub count : length workers ≡ yard.made
  pub between : All (λ w. IsBetweenTurns yard (seat_of w)) workers
  pub each_number : (number : ℕ) → number < yard.made → Any (λ w. (seat_of w).number ≡ number) workers

-- 1 for a worker that ended as done
abbrev pub done_of : Option End → ℕ
done_of (Some Done) = 1
done_of (Some Stopped) = 0
done_of None = 0

-- a worker that has ended: its seat is idle, and where it ended as done it has seen a complete history
pub record HasEnded (complete : List Entry → Type 0) (yard : YardState) (seat : SeatState) (end : Option End) : Type 0 where
  pub idle : IsIdleSeat yard.id seat
  pub seen : end ≡ Some Done → Was complete seat.seen

-- all seats of the yard are with the workers or among the seats, and so many of those ended as done
pub record HaveEnded {W : Type 0} (complete : List Entry → Type 0) (yard : YardState) (seat_of : W → SeatState) (end_of : W → Option End) (workers : List W) (seats : List SeatState) (done : ℕ) : Type 0 where
  pub ended : All (λ w. HasEnded complete yard (seat_of w) (end_of w)) workers
  pub idle : All (IsIdleSeat yard.id) seats
  pub each_number : (number : ℕ) → number < yard.made → Any (λ w. (seat_of w).number ≡ number) workers ⊎ Any (λ s. s.number ≡ number) seats
  pub some_done : 0 < done → Any (λ s. Was complete s.seen) seats
  pub at_most : done + length workers ≤ yard.made
