use Rattle.std.proofs.Common.{sym, arith, ◌∙◌}
use Rattle.block_tree.proofs.Places.{loc_in, loc_of}
use Rattle.block_tree.proofs.Filling.{coarse_entry}
use Rattle.block_tree.proofs.table.entry_across.Goals as goal

pub fine_numbers-requires-clause-valid : goal.fine_numbers-requires-clause-valid
fine_numbers-requires-clause-valid c = loc_in c.args.shape.now c.args.at.now c.requires.shape c.requires.valid

pub parent-requires-clause-valid : goal.parent-requires-clause-valid
parent-requires-clause-valid c = loc_of c.args.shape.now c.args.at.now c.requires.shape c.requires.valid

pub returns : goal.returns
returns c = coarse_entry c.args.nodes.now c.args.leaves.now c.args.shape.now c.args.at.now c.args.side.axis c.args.side.high c.parent.result c.number-2.result
    (sym c.in_default.ensures) (omega arith) (sym c.contains.ensures ∙ c.if-contains.false) (c.parent.ensures.in_any_shape c.args.shape.now c.requires.shape c.requires.valid) c.number-2.ensures
