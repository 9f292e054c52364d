use Rattle.std.proofs.Common.{sym, ap, ◌∙◌, Some}
use Rattle.turn_yard.specs.Seat.{SeatState}
use Rattle.yard_workers.proofs.Later.{after_turn, returned_later}
use Rattle.yard_workers.proofs.turn.give.Goals as goal

pub give-requires : goal.give-requires
give-requires g c =
    let took = c.take_turn-shared in
    returned_later g.M.Machine.suits g.M.Machine.leased g.M.Machine.worked _ _ c.args.seat.now.number _ c.args.seat.now.seen _ c.args.done (sym (took.ensures.origin ∙ c.requires.seat.origin))
    (sym (c.number.ensures ∙ ap (λ (s : SeatState). s.number) took.ensures.seat)) took.ensures.seen (took.ensures.own ∙ c.requires.seat.own) c.requires.work

pub returns-in-Ok-clause-seat : goal.returns-in-Ok-clause-seat
returns-in-Ok-clause-seat g c =
    let took = c.take_turn-shared in
    after_turn c.args.yard.now c.args.seat.now took.new.seat c.give_turn.new.seat (g.M.Entries.entries took.result.machine) (g.M.Entries.entries c.give.new.self) (g.M.Entries.marks took.result.machine)
    (g.M.Entries.marks c.give.new.self) c.number.result (Some c.in-Ok.partition) c.requires.seat took.ensures.seat c.give_turn.ensures took.ensures.seen took.ensures.own took.ensures.marks c.number.ensures
    c.give.ensures.entries c.in-Ok.ensures.marks
