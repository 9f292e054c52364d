use Rattle.std.proofs.Common.{List, IfSome, sym, ap, subst}
use Rattle.turn_yard.specs.History.{Entry}
use Rattle.turn_yard.specs.Seat.{SeatState}
use Rattle.yard_workers.specs.Worker.{Ended}
use Rattle.yard_workers.proofs.Later.{after_look, after_work, after_drop, later_on}
use Rattle.yard_workers.proofs.worker.round.Goals as goal

pub returns-in_default-clause-notes : goal.returns-in_default-clause-notes
returns-in_default-clause-notes g c =
    after_work g.M.Machine.suits g.M.Machine.leased g.M.Machine.noted c.args.setting.now c.in-Work.lease c.args.notes.now c.work.new.notes c.args.yard.now.origin c.ask.new.seat c.args.seat.now.seen c.stop.new.seat.seen
    c.ask.ensures.seat.between.origin c.ask.ensures.seat.seen c.stop.ensures.seat.seen c.requires.setting c.in-Work.ensures.next.0 c.requires.notes c.work.ensures.notes

pub returns-in-Ok-clause-seat : goal.returns-in-Ok-clause-seat
returns-in-Ok-clause-seat g c =
    after_look c.args.yard.now c.args.seat.now c.give-end.new.seat c.epoch-epoch.new.seat c.in-Work.partition c.epoch-epoch.result
    (later_on c.args.yard.now c.args.seat.now c.ask.new.seat c.give-end.new.seat c.ask.ensures.seat c.give-end.ensures.seat) c.epoch-epoch.ensures.seat

pub returns-in-Ok-clause-notes : goal.returns-in-Ok-clause-notes
returns-in-Ok-clause-notes g c =
    after_drop g.M.Machine.suits g.M.Machine.leased g.M.Machine.noted c.work.new.notes c.drop_stale.new.notes c.args.yard.now.origin c.give-end.new.seat.seen c.epoch-epoch.new.seat.seen
    (ap (λ (s : SeatState). s.seen) c.epoch-epoch.ensures.seat) c.drop_stale.ensures
    (after_work g.M.Machine.suits g.M.Machine.leased g.M.Machine.noted c.args.setting.now c.in-Work.lease c.args.notes.now c.work.new.notes c.args.yard.now.origin c.ask.new.seat c.args.seat.now.seen
    c.give-end.new.seat.seen c.ask.ensures.seat.between.origin c.ask.ensures.seat.seen c.give-end.ensures.seat.seen c.requires.setting c.in-Work.ensures.next.0 c.requires.notes c.work.ensures.notes)

pub returns-in-Ok-clause-end : goal.returns-in-Ok-clause-end
returns-in-Ok-clause-end g c =
    subst (λ (h : List Entry). IfSome c.give-end.result (Ended (g.M.Machine.complete c.args.yard.now.origin) h)) (sym (ap (λ (s : SeatState). s.seen) c.epoch-epoch.ensures.seat)) c.give-end.ensures.end
