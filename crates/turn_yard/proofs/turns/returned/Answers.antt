use Rattle.std.proofs.Common.{rules, ◌≡◌, ℕ, Bool, false, List, [], ◌∷◌, Option, Some, None, IfSome, cond, sym, ap, ◌∙◌, subst}
use Rattle.std.proofs.lemmas.List.Elements.{All-pop}
use Rattle.atomic_table.specs.Table.{Me}
use Rattle.turn_yard.specs.Seat.{SeatState}
use Rattle.turn_yard.specs.Yard.{IsIdleSeat}
use Rattle.turn_yard.specs.declared.view.View.{View}
use Rattle.turn_yard.proofs.Keeps.{first_joins}
use Rattle.turn_yard.proofs.turns.returned.Goals as goal

pub join_seat-requires : goal.join_seat-requires
join_seat-requires g c =
    let T : Type 0 = g.row.T.Denot in
    let i = c.loop-seat.invariant in
    let table = c.args.shared.now.table_id in
    let popped : IsIdleSeat table c.in-Some.seat = subst (λ o. IfSome o (IsIdleSeat table)) c.in-Some.is (All-pop (IsIdleSeat table) _ _ _ c.pop.ensures.items i.1).1 in
    let free : c.seat.inside.seat.me.0.holds ≡ false = ap (λ (s : SeatState). s.holds) c.seat.view_is ∙ popped.1 in (
      i.0.table ∙ c.requires.table.0,
      ap (λ (s : SeatState). s.yard) c.seat.view_is ∙ popped.0,
      c.seat.invariant.slot ∙ ap (λ b. cond b ((0, None) ∷ []) []) free,
      c.requires.table.2,
      first_joins _ _ _ _ _ (i.0.id ∙ c.requires.table.1) (ap (λ (m : Me (Option T) View). m.0.in_use) i.2.2 ∙ c.requires.own.0) c.seat.invariant.in_use free,
    )
