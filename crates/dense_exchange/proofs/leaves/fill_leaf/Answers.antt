use Rattle.dense_exchange.proofs.Around.{comes_next, leaf_goes_on}
use Rattle.dense_exchange.proofs.leaves.fill_leaf.Goals as goal

pub loop-axis-preserved : goal.loop-axis-preserved
loop-axis-preserved c =
    let e = c.args.on.now in
    record {
      filling = leaf_goes_on e c.args.to c.loop-axis.axis c.args.ghosts.now.items c.loop-axis.ghosts.items c.fill_next.new.ghosts.items c.fill_next-in-loop-axis.new.ghosts.items c.loop-axis-test.true
          c.loop-axis.invariant.filling c.in_ok-low.ensures.filled c.in_ok-above.ensures.filled;
      above = comes_next e c.args.to c.loop-axis.axis c.loop-axis.above c.in_ok-low.low c.in_ok-above.above c.loop-axis.invariant.above c.in_ok-low.ensures.above c.in_ok-above.ensures.above;
    }
