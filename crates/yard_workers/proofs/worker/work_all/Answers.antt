use Rattle.std.proofs.Common.{slice_index_or, subst}
use denote.Param.Send.{sendable}
use Rattle.turn_yard.proofs.Sharing.{yard_sync}
use Rattle.yard_workers.specs.Worker.{HasWorked}
use Rattle.yard_workers.proofs.shared.Shared.TheSendSync as shared
use Rattle.yard_workers.proofs.worker.work_all.Goals as goal

pub for_each_mut-requires-sync-F : goal.for_each_mut-requires-sync-F
for_each_mut-requires-sync-F g c κs within =
    let machine = c.type_bounds.send-M in
    let setting = c.type_bounds.sync-M-Setting in
    let runtime = c.type_bounds.sync-R in
    let gate = c.type_bounds.sync-G in
    search (sendable, yard_sync, shared.the_send) depth 30

pub returns-clause-each : goal.returns-clause-each
returns-clause-each g c i d below =
    let called = (c.for_each_mut.ensures i d below).1 in
    let complete = g.M.Machine.complete c.args.yard.now.origin in
    let after = slice_index_or c.for_each_mut.new.s i d in
    subst (λ w. HasWorked complete c.args.yard.now w.seat after.seat after.end) called.argument_is
    (subst (λ w. HasWorked complete c.args.yard.now called.argument.now.seat w.seat w.end) called.left called.call)
