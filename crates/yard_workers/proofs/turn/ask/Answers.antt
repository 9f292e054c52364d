use Rattle.std.proofs.Common.{List, sym, ap, ◌∙◌, subst, ℕ, Some, None}
use Rattle.turn_yard.specs.Seat.{SeatState}
use Rattle.yard_workers.specs.Machine.{Was}
use Rattle.yard_workers.proofs.Later.{after_turn, was_later, was_now}
use Rattle.yard_workers.proofs.turn.ask.Goals as goal

pub ask-requires : goal.ask-requires
ask-requires g c =
    let took = c.take_turn-shared in
    let h = g.M.Entries.entries took.result.machine in
    let origin = sym (took.ensures.origin ∙ c.requires.seat.origin) in
    record { notes = subst (λ (o : List ℕ). Was (g.M.Machine.noted c.args.notes.now o) h) origin (was_later _ _ h took.ensures.seen c.requires.notes) }

pub returns-in-Lease-clause-seat : goal.returns-in-Lease-clause-seat
returns-in-Lease-clause-seat g c =
    let took = c.take_turn-shared in
    after_turn c.args.yard.now c.args.seat.now took.new.seat c.give_turn-in-Lease.new.seat (g.M.Entries.entries took.result.machine) (g.M.Entries.entries c.ask.new.self) (g.M.Entries.marks took.result.machine)
    (g.M.Entries.marks c.ask.new.self) c.number.result None c.requires.seat took.ensures.seat c.give_turn-in-Lease.ensures took.ensures.seen took.ensures.own took.ensures.marks c.number.ensures
    c.ask.ensures.entries c.in-Lease.ensures.marks

pub returns-in-Delivered-clause-seat : goal.returns-in-Delivered-clause-seat
returns-in-Delivered-clause-seat g c =
    let took = c.take_turn-shared in
    after_turn c.args.yard.now c.args.seat.now took.new.seat c.give_turn-in-Delivered.new.seat (g.M.Entries.entries took.result.machine) (g.M.Entries.entries c.ask.new.self) (g.M.Entries.marks took.result.machine)
    (g.M.Entries.marks c.ask.new.self) c.number.result (Some c.in-Delivered.partition) c.requires.seat took.ensures.seat c.give_turn-in-Delivered.ensures took.ensures.seen took.ensures.own took.ensures.marks c.number.ensures
    c.ask.ensures.entries c.in-Delivered.ensures.marks

pub returns-in-Done-clause-next : goal.returns-in-Done-clause-next
returns-in-Done-clause-next g c =
    let took = c.take_turn-shared in
    let gave = c.give_turn-in-Done.ensures in
    was_now g.M.Machine.complete _ (g.M.Entries.origin took.result.machine) _ (g.M.Entries.entries c.ask.new.self) (ap (λ (s : SeatState). s.seen) gave)
    (ap (λ (s : SeatState). s.origin) gave ∙ (ap (λ (s : SeatState). s.origin) took.ensures.seat ∙ sym took.ensures.origin)) c.in-Done.ensures.answer.1
