use Rattle.block_tree.proofs.Forced.{least_is_least}
use Rattle.block_tree.proofs.Next.{opening_is_least}
use Rattle.block_tree.proofs.laws.least_tree_law.Goals as goal

pub returns-clause-least : goal.returns-clause-least
returns-clause-least c = least_is_least

pub returns-clause-opening : goal.returns-clause-opening
returns-clause-opening c = opening_is_least
