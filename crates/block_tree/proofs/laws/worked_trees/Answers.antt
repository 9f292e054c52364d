use Rattle.std.proofs.Common.{refl}
use Rattle.block_tree.specs.Leaves.{roots, leaves_of, inner_of}
use Rattle.block_tree.specs.Least.{forced}
use Rattle.block_tree.proofs.laws.worked_trees.Goals as goal

pub returns : goal.returns
unfolding roots leaves_of inner_of forced
returns c = (refl, refl, refl, refl, refl, refl, refl, refl, refl, refl, refl)
