use Rattle.std.proofs.Common.{◌∙◌, ◌^◌, arith}
use Rattle.alloc_epochs.specs.Shelf.{place_on}
use Rattle.cell_block.proofs.Openings.{adds_more, adds_none}
use Rattle.cell_block.proofs.opening.add_field.Goals as goal

pub loop-block-init : goal.loop-block-init
loop-block-init c = adds_none c.args.layout.now c.args.field c.args.store.now

pub add_zeros-requires : goal.add_zeros-requires
add_zeros-requires c =
    let adds = c.loop-block.invariant in
    record {
      block = omega (arith, c.loop-block-test.true, adds.leaf_rows, c.requires.leaves);
      field = omega (arith, c.requires.field, adds.numbers);
      absent = adds.later (place_on c.loop-block.block c.args.field) (omega arith) ∙ c.requires.absent c.loop-block.block c.loop-block-test.true;
      epochs = λ list. (let bound = adds.epochs (2 ^ 62) c.requires.epochs list in omega (arith, bound, c.loop-block-test.true, c.ranges.leaves));
    }

pub loop-block-preserved : goal.loop-block-preserved
loop-block-preserved c =
    let adds = c.loop-block.invariant in
    adds_more c.args.layout.now c.args.field c.loop-block.block c.args.store.now c.loop-block.store c.add_zeros.new.store adds c.lists.ensures.kept
    (omega (arith, c.loop-block-test.true, adds.leaf_rows, c.requires.leaves)) (omega (arith, c.requires.field, adds.numbers)) c.in_ok-add_zeros.ensures
