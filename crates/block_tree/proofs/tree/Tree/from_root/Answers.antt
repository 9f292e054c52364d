use Rattle.block_tree.proofs.Wanted.{root_leaves}
use Rattle.block_tree.proofs.tree.Tree.from_root.Goals as goal

pub from_inner-requires-clause-few : goal.from_inner-requires-clause-few
from_inner-requires-clause-few c = root_leaves c.args.shape c.requires.shape c.requires.few
