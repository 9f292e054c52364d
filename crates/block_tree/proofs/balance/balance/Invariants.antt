use Rattle.block_tree.specs.Tree.{is_listed}
use Rattle.block_tree.specs.Worklist.{IsGrown}
use Rattle.block_tree.proofs.balance.balance.Given as goal

abbrev pub invariant-loop-done : goal.invariant-loop-done
invariant-loop-done l = IsGrown l.shape (is_listed l.initial.nodes) l.nodes l.done
