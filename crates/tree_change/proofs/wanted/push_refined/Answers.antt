use Rattle.std.proofs.Common.{arith}
use Rattle.std.specs.List.{slice_index_or, zip}
use Rattle.std.proofs.lemmas.Option.{slice_get-get_or}
use Rattle.block_tree.specs.declared.tags.Tag.TheVariants.{Refine}
use Rattle.block_tree.proofs.Filling.{pieces_end, pieces_step}
use Rattle.tree_change.specs.Listed.{refined}
use Rattle.tree_change.proofs.Tags.{zip_long, zip_read}
use Rattle.tree_change.proofs.wanted.push_refined.Goals as goal

pub loop-i-preserved : goal.loop-i-preserved
loop-i-preserved c =
    pieces_step refined c.loop-i.wanted.items c.refine.new.wanted.items _ (zip c.args.leaves.now c.args.tags.now) c.loop-i.i (slice_index_or c.args.leaves.now c.loop-i.i (record { level = 0; l1 = 0; l2 = 0; l3 = 0 }), slice_index_or c.args.tags.now c.loop-i.i Refine) c.loop-i.invariant
    (zip_read c.args.leaves.now c.args.tags.now c.loop-i.i (slice_index_or c.args.leaves.now c.loop-i.i (record { level = 0; l1 = 0; l2 = 0; l3 = 0 })) (slice_index_or c.args.tags.now c.loop-i.i Refine)
    (slice_get-get_or c.args.leaves.now c.loop-i.i (record { level = 0; l1 = 0; l2 = 0; l3 = 0 }) (omega arith)) (slice_get-get_or c.args.tags.now c.loop-i.i Refine (let e = c.requires in omega arith)))
    c.in_ok-refine.ensures

pub returns : goal.returns
returns c = let few = zip_long c.args.leaves.now c.args.tags.now in
    pieces_end refined c.loop-i.wanted.items _ (zip c.args.leaves.now c.args.tags.now) c.loop-i.i (omega arith) c.loop-i.invariant
