use Rattle.std.proofs.Common.{sym, ◌∙◌}
use Rattle.block_tree.proofs.Shown.{leaves_now}
use Rattle.block_tree.proofs.tree.Tree.leaves.Goals as goal

pub returns : goal.returns
returns c = c.as_slice.ensures ∙ leaves_now c.args.self.now c.self.inside.shape c.self.inside.nodes c.self.inside.leaves c.self.inside.table.items (sym c.self.view_is) c.self.invariant
