use Rattle.std.proofs.Common.{ap, sym, ◌∙◌}
use Rattle.block_tree.specs.Tree.{is_listed}
use Rattle.block_tree.proofs.Shown.{inner_now}
use Rattle.block_tree.proofs.tree.Tree.inner_nodes.Goals as goal

pub returns : goal.returns
returns c = ap is_listed c.as_slice.ensures ∙ inner_now c.args.self.now c.self.inside.shape c.self.inside.nodes c.self.inside.leaves c.self.inside.table.items (sym c.self.view_is) c.self.invariant
