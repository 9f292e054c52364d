use Rattle.std.proofs.Common.{Bool, ap, sym, ◌∙◌}
use Rattle.morton_order.specs.declared.space.Loc.{Loc}
use Rattle.block_tree.proofs.Shown.{inner_now}
use Rattle.block_tree.proofs.tree.Tree.is_inner.Goals as goal

pub returns : goal.returns
returns c = c.contains.ensures ∙ ap (λ (p : Loc → Bool). p c.args.at.now) (inner_now c.args.self.now c.self.inside.shape c.self.inside.nodes c.self.inside.leaves c.self.inside.table.items (sym c.self.view_is) c.self.invariant)
