use denote.Param.Send.{sendable}
use Rattle.turn_yard.proofs.Sharing.{yard_sync}
use Rattle.yard_bench.proofs.Counter.TheSendSync as counter
use Rattle.yard_bench.proofs.all_turns.Goals as goal

pub for_each_mut-requires-sync-F : goal.for_each_mut-requires-sync-F
for_each_mut-requires-sync-F g c κs within =
    let runtime = c.type_bounds.sync-R in
    search (sendable, yard_sync, counter.the_send) depth 30
