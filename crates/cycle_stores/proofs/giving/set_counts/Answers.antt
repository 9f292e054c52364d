use Rattle.std.proofs.Common.{arith}
use Rattle.cycle_stores.proofs.Turns.{counted_all}
use Rattle.cycle_stores.proofs.giving.set_counts.Goals as goal

pub returns : goal.returns
returns c =
    let i = c.loop-i.invariant in
    counted_all c.args.state.now c.loop-i.state c.args.bufs.now c.args.counts.now c.loop-i.i (omega (arith, c.min-i-end.ensures, c.loop-i-test.false)) i.same i.counted
