use Rattle.block_tree.proofs.KeyOrder.{leaves_law}
use Rattle.block_tree.proofs.laws.leaves_law.Goals as goal

pub returns : goal.returns
returns c = leaves_law
