use Rattle.std.proofs.Common.{arith}
use Rattle.cycle_stores.proofs.Turns.{low_stamp}
use Rattle.cycle_stores.proofs.giving.raise_stamps.Goals as goal

pub overflow_add-first : goal.overflow_add-first
overflow_add-first c = omega (arith, c.tree.ensures.kept.tree.few, c.requires.blocks, c.loop-i-test.true)

pub raise_stamp-requires-clause-stamps : goal.raise_stamp-requires-clause-stamps
raise_stamp-requires-clause-stamps c = low_stamp c.args.state.now c.loop-i.state c.args.first c.loop-i.i c.loop-i.invariant c.requires.stamps
