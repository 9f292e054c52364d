use Rattle.block_tree.proofs.InnerList.{inners_are_listed}
use Rattle.block_tree.proofs.laws.inner_nodes_law.Goals as goal

pub returns : goal.returns
returns c = inners_are_listed
