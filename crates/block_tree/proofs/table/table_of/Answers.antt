use Rattle.std.proofs.Common.{sym, arith, ◌∙◌, ap, ◌++◌, ◌∷◌, []}
use Rattle.block_tree.specs.Table.{sides_of}
use Rattle.block_tree.proofs.Filling.{map_step}
use Rattle.block_tree.proofs.Lists.{some_within}
use Rattle.block_tree.proofs.table.table_of.Goals as goal
use Rattle.block_tree.proofs.table.table_of.Goals.{in-Some+in_ok-push, in_default}

pub loop-i-preserved : goal.loop-i-preserved
loop-i-preserved c = elim c.match-get.branch [
  | in-Some+in_ok-push w ↦ map_step (sides_of c.args.nodes.now c.args.leaves.now c.args.shape.now) c.loop-i.table.items c.match-get.table.items _ c.args.leaves.now c.loop-i.i w.in-Some.at c.loop-i.invariant w.in-Some.ensures (ap (λ v. v.items) w.table-is ∙ w.in_ok-push.ensures.items ∙ ap (λ v. c.loop-i.table.items ++ v ∷ []) w.sides_of.ensures)
  | in_default w ↦ some_within c.args.leaves.now c.loop-i.i (omega arith) (sym w.in_default.ensures)
]
