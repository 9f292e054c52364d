use Rattle.dense_exchange.proofs.Copied.{Copying}
use Rattle.dense_exchange.proofs.leaves.copy_all.Given as goal

abbrev pub invariant-loop-leaf : goal.invariant-loop-leaf
invariant-loop-leaf l = Copying l.on l.leaf l.ghosts.items
