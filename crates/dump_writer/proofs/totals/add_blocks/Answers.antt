use Rattle.std.proofs.Common.{length, ap, ◌∙◌, arith}
use Rattle.block_tree.specs.Blocks.{TreeOfBlocks, leaves}
use Rattle.cell_block.specs.State.{leaf_count}
use Rattle.dump_writer.specs.Totals.{sum_on_block}
use Rattle.dump_writer.proofs.Sums.{sum_within}
use Rattle.dump_writer.proofs.totals.add_blocks.Goals as goal

pub add_block-requires-clause-bound : goal.add_block-requires-clause-bound
add_block-requires-clause-bound c f some =
    let count = c.len-leaf-end.ensures.count ∙ ap (λ (t : TreeOfBlocks). length (leaves t)) c.tree.ensures.tree in
    let all = c.requires.bound f some in
    let one = sum_within c.loop-leaf.leaf (leaf_count c.args.mesh.now) (sum_on_block c.args.layout.now c.args.mesh.now f) (omega (arith, c.loop-leaf-test.true, count)) in
    omega (arith, all, one)
