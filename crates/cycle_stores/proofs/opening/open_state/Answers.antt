use Rattle.std.proofs.Common.{ap, length, arith}
use Rattle.block_tree.specs.Blocks.{TreeOfBlocks, leaves}
use Rattle.cycle_stores.proofs.OpenedPlaces.{below_next, opened_state}
use Rattle.cycle_stores.proofs.opening.open_state.Goals as goal

pub loop-block-preserved : goal.loop-block-preserved
loop-block-preserved c = below_next c.args.state.now c.loop-block.state c.open_block.new.state c.loop-block.block c.loop-block.invariant c.in_ok-open_block.ensures

pub returns : goal.returns
returns c =
    opened_state c.args.state.now c.loop-block.state c.restart_epochs.new.self c.loop-block.block c.loop-block.invariant c.tree.ensures.kept
    (omega (arith, c.loop-block-test.false, c.len-leaves.ensures.count, ap (λ (t : TreeOfBlocks). length (leaves t)) c.tree.ensures.tree)) c.restart_epochs.ensures
