use Rattle.std.proofs.Common.{sym, ◌∙◌}
use Rattle.due_counts.proofs.Added.{adds_next, adds_none, can_next}
use Rattle.due_counts.proofs.walk.add_all.Goals as goal

pub loop-i-init : goal.loop-i-init
loop-i-init c = adds_none c.args.counts.now c.requires.can.bounded

pub add-requires : goal.add-requires
add-requires c = can_next c.args.size c.loop-i.i c.unwrap-leaf.result c.args.leaves.now c.args.counts.now c.loop-i.counts c.requires.can
    c.loop-i.invariant (sym c.get.ensures ∙ c.unwrap-leaf.ensures)

pub loop-i-preserved : goal.loop-i-preserved
loop-i-preserved c = adds_next c.args.size c.loop-i.i c.unwrap-leaf.result c.args.leaves.now c.args.counts.now c.loop-i.counts c.add.new.self
    c.loop-i.invariant (sym c.get.ensures ∙ c.unwrap-leaf.ensures) c.add.ensures
