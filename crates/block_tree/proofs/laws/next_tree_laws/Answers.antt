use Rattle.block_tree.proofs.Next.{next_is_least, next_is_near}
use Rattle.block_tree.proofs.laws.next_tree_laws.Goals as goal

pub returns-clause-least : goal.returns-clause-least
returns-clause-least c = next_is_least

pub returns-clause-near : goal.returns-clause-near
returns-clause-near c = next_is_near
