use Rattle.std.proofs.Common.{rules, ◌≡◌, ℕ, ◌<◌, List, [], ◌∷◌, map, Option, sym, ap, ◌∙◌, subst, arith}
use Rattle.std.specs.List.{All, Any}
use Rattle.atomic_table.specs.Table.{Me}
use Rattle.turn_yard.specs.History.{Entry}
use Rattle.turn_yard.specs.Inside.{known_of, own_view}
use Rattle.turn_yard.specs.Rule.{Knows}
use Rattle.turn_yard.specs.Seat.{SeatState}
use Rattle.turn_yard.specs.Yard.{YardState, IsOfSeat}
use Rattle.turn_yard.specs.declared.view.Known.{Known}
use Rattle.turn_yard.specs.declared.view.View.{View}
use Rattle.turn_yard.proofs.Closing.{any_known, ends_of}
use Rattle.turn_yard.proofs.yard.Yard.close.Goals as goal

pub last-requires-clause-all : goal.last-requires-clause-all
last-requires-clause-all g c n below =
    let T : Type 0 = g.row.T.Denot in
    let after = c.returned-own.ensures.after in
    let own = ap own_view c.into_seat.ensures.2 in
    let made : c.returned-own.result.me.0.made ≡ c.args.self.made =
    ap (λ (m : Me (Option T) View). m.0.made) after ∙ (ap (λ (v : View). v.made) (sym own) ∙ (c.self.invariant.made_is ∙ ap (λ (y : YardState). y.made) c.self.view_is)) in
    subst (Any (λ (k : Known). k.number ≡ n)) (ap (λ (m : Me (Option T) View). m.0.returned) (sym after)) (any_known c.args.seats.items n (c.requires.each_number n (omega arith)))

pub returns-clause-seats : goal.returns-clause-seats
returns-clause-seats g c =
    let T : Type 0 = g.row.T.Denot in
    ends_of _ _ _ c.args.seats.items (subst (All (Knows c.returned-own.result.me.0.known.origin (g.T.Entries.entries c.last.result) (g.T.Entries.marks c.last.result))) (ap (λ (m : Me (Option T) View). m.0.returned) c.returned-own.ensures.after) c.last.ensures.known)

pub returns-clause-all : goal.returns-clause-all
returns-clause-all g c =
    let T : Type 0 = g.row.T.Denot in
    let after = c.returned-own.ensures.after in
    let own = ap own_view c.into_seat.ensures.2 in
    let made : c.returned-own.result.me.0.made ≡ c.args.self.made =
    ap (λ (m : Me (Option T) View). m.0.made) after ∙ (ap (λ (v : View). v.made) (sym own) ∙ (c.self.invariant.made_is ∙ ap (λ (y : YardState). y.made) c.self.view_is)) in
    subst (λ n. All (IsOfSeat n) (g.T.Entries.entries c.last.result)) made c.last.ensures.made
