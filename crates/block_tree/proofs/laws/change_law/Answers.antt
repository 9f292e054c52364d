use Rattle.block_tree.proofs.Changes.{changes_by_one_level}
use Rattle.block_tree.proofs.laws.change_law.Goals as goal

pub returns : goal.returns
returns c = changes_by_one_level
