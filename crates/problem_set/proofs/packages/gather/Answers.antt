use Rattle.std.proofs.Common.{nat_lt, length}
use Rattle.problem_set.specs.PackageBlocks.{most_gathered}
use Rattle.problem_set.proofs.GatherLemmas.{gather_step, gather_fewer, gather_fields, gather_moves}
use Rattle.problem_set.proofs.packages.gather.Goals as goal

pub loop-place-smaller : goal.loop-place-smaller
loop-place-smaller c =
    gather_fewer c.args.blocks.now c.args.next.now c.in-Some.i c.block_at.result.now (nat_lt (length c.push_block.new.list.fields) most_gathered) c.loop-place.place c.next_place-place.result c.requires.chained c.in-Some.is c.block_at.ensures c.next_place-place.ensures

pub loop-place-preserved : goal.loop-place-preserved
loop-place-preserved c =
    gather_step c.args.blocks.now c.args.next.now c.args.package_name.now c.loop-place.list.fields c.push_block.new.list.fields c.loop-place.list.moves c.push_block.new.list.moves c.in-Some.i c.block_at.result.now c.loop-place.place c.next_place-place.result c.requires.chained c.loop-place.invariant c.in-Some.is c.block_at.ensures c.in_ok-push_block.ensures.fields c.in_ok-push_block.ensures.moves c.next_place-place.ensures

pub returns-clause-fields : goal.returns-clause-fields
returns-clause-fields c =
    gather_fields c.args.blocks.now c.args.package_name.now c.loop-place.list.fields c.loop-place.list.moves c.loop-place.place c.loop-place.invariant c.in_default.is

pub returns-clause-moves : goal.returns-clause-moves
returns-clause-moves c =
    gather_moves c.args.blocks.now c.args.package_name.now c.loop-place.list.fields c.loop-place.list.moves c.loop-place.place c.loop-place.invariant c.in_default.is
