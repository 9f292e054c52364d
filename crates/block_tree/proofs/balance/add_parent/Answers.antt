use Rattle.block_tree.proofs.Places.{loc_of}
use Rattle.block_tree.proofs.balance.add_parent.Goals as goal

pub parent-requires-clause-valid : goal.parent-requires-clause-valid
parent-requires-clause-valid c = loc_of c.args.shape.now c.args.at.now c.requires.shape c.requires.valid
