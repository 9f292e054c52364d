use Rattle.std.proofs.Common.{arith, inl, inr, sym}
use Rattle.block_tree.specs.Tree.{is_listed}
use Rattle.block_tree.proofs.Worklist.{grown_answer, grown_turn, past_end, read_inside}
use Rattle.block_tree.proofs.balance.balance.Goals as goal
use Rattle.block_tree.proofs.balance.balance.Goals.{else-loop-done-test, then-loop-done-test+in_default}

pub add_around-requires-clause-valid : goal.add_around-requires-clause-valid
add_around-requires-clause-valid c = read_inside c.args.shape.now (is_listed c.args.nodes.now) c.loop-done.nodes c.loop-done.done c.loop-done.done c.in-Some.at c.loop-done.invariant c.in-Some.ensures

pub loop-done-preserved : goal.loop-done-preserved
loop-done-preserved c = grown_turn c.args.shape.now (is_listed c.args.nodes.now) c.loop-done.nodes c.add_around.new.nodes c.loop-done.done c.in-Some.at c.requires.shape c.loop-done.invariant (sym c.in-Some.ensures) c.in_ok-add_around.ensures.added

pub returns-clause-whole : goal.returns-clause-whole
returns-clause-whole c = grown_answer c.args.shape.now (is_listed c.args.nodes.now) c.loop-done.nodes c.loop-done.done c.args.most c.len.result c.loop-done.invariant c.len.ensures.count (elim c.loop-done-test.branch [
  | else-loop-done-test w ↦ inr (omega arith)
  | then-loop-done-test+in_default w ↦ inl (past_end c.loop-done.nodes c.loop-done.done w.in_default.ensures)
])
