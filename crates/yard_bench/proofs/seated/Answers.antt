use Rattle.std.proofs.Common.{◌≡◌, ◌∙◌, ◌+◌, ◌++◌, ◌∷◌, [], ℕ, List, ap, sym, subst, refl}
use Rattle.std.specs.List.{All}
use Rattle.std.proofs.lemmas.List.Elements.{All-nil, All-cons, All-append}
use Rattle.turn_yard.specs.Seat.{SeatState}
use Rattle.turn_yard.specs.Yard.{YardState, fresh_seat}
use Rattle.yard_bench.specs.Free.{IsFree}
use Rattle.yard_bench.proofs.seated.Goals as goal

one_more : (yard after : YardState) (seats later : List SeatState) (seat : SeatState)
    → All (IsFree yard) seats → seat ≡ fresh_seat yard → after ≡ record yard { made = yard.made + 1 } → later ≡ seats ++ seat ∷ [] → All (IsFree after) later
one_more yard after seats later seat free fresh made more =
    let one : IsFree yard seat = subst (IsFree yard) (sym fresh) (refl, refl) in
    let all : All (IsFree yard) (seats ++ seat ∷ []) = All-append (IsFree yard) seats (seat ∷ []) free (All-cons (IsFree yard) seat [] one (All-nil (IsFree yard))) in
    subst (λ (s : List SeatState). All (IsFree after) s) (sym more) (subst (λ (y : YardState). All (IsFree y) (seats ++ seat ∷ [])) (sym made) all)

pub loop-preserved : goal.loop-preserved
loop-preserved c = (
  ap (λ (y : YardState). y.made) c.seat_for-seat.ensures.made ∙ ap (λ (n : ℕ). n + 1) c.loop.invariant.0,
  one_more c.loop.yard c.seat_for-seat.new.self c.loop.seats.items c.push.new.self.items _ c.loop.invariant.1 c.seat_for-seat.ensures.seat c.seat_for-seat.ensures.made c.in_ok-push.ensures.items,
)
