use Rattle.block_tree.proofs.Places.{loc_of}
use Rattle.dense_remesh.proofs.origins.parent_leaf.Goals as goal

pub parent-requires-clause-valid : goal.parent-requires-clause-valid
parent-requires-clause-valid c = loc_of c.args.tree.now.shape c.args.at.now c.len-count.ensures.kept.shape c.requires
