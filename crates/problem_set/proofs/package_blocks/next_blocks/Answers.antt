use Rattle.std.proofs.Common.{arith}
use Rattle.problem_set.specs.PackageBlocks.{place_in}
use Rattle.problem_set.proofs.ChainLemmas.{chain_start, chain_step, chain_whole}
use Rattle.problem_set.proofs.package_blocks.next_blocks.Goals as goal

pub loop-i-init : goal.loop-i-init
loop-i-init c =
    chain_start c.args.blocks.now c.in_ok-next.next.items (place_in c.new-nearest.result) (omega (arith, c.in_ok-next.ensures.len)) (λ m. rw c.new-nearest.ensures.empty)

pub block_at-requires : goal.block_at-requires
block_at-requires c = omega (arith, c.loop-i.invariant.within, c.loop-i-test.true)

pub index_mut-requires : goal.index_mut-requires
index_mut-requires c = omega (arith, c.loop-i.invariant.within, c.loop-i.invariant.as_many, c.loop-i-test.true)

pub loop-i-preserved : goal.loop-i-preserved
loop-i-preserved c =
    chain_step c.args.blocks.now c.loop-i.next.items (place_in c.loop-i.nearest) (place_in c.put.new.places) c.loop-i.i c.block_at.result.now c.as_str.result.now c.in_ok-next-2.field-0 c.loop-i-test.true c.loop-i.invariant c.block_at.ensures c.as_str.ensures c.in_ok-next-2.ensures.before c.in_ok-next-2.ensures.after

pub returns-clause-chained : goal.returns-clause-chained
returns-clause-chained c =
    chain_whole c.args.blocks.now c.loop-i.next.items (place_in c.loop-i.nearest) c.loop-i.i (omega (arith, c.loop-i-test.false)) c.loop-i.invariant
