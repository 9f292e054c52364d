use Rattle.std.proofs.Common.{length, ap, sym, ◌∙◌}
use Rattle.block_tree.proofs.Shown.{leaves_now, tree_now}
use Rattle.block_tree.proofs.tree.Tree.len.Goals as goal

pub returns-clause-count : goal.returns-clause-count
returns-clause-count c = c.len.ensures.count ∙ ap length (leaves_now c.args.self.now c.self.inside.shape c.self.inside.nodes c.self.inside.leaves c.self.inside.table.items (sym c.self.view_is) c.self.invariant)

pub returns-clause-kept : goal.returns-clause-kept
returns-clause-kept c = tree_now c.args.self.now c.self.inside.shape c.self.inside.nodes c.self.inside.leaves c.self.inside.table.items (sym c.self.view_is) c.self.invariant
