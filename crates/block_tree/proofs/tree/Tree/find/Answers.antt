use Rattle.std.proofs.Common.{List, ap, sym, ◌∙◌}
use Rattle.morton_order.specs.declared.space.Loc.{Loc}
use Rattle.block_tree.specs.Nodes.{number_in}
use Rattle.block_tree.proofs.Shown.{leaves_now}
use Rattle.block_tree.proofs.tree.Tree.find.Goals as goal

pub returns-in-Some : goal.returns-in-Some
returns-in-Some c = c.in-Some.ensures ∙ ap (λ (v : List Loc). number_in v c.args.at.now) (leaves_now c.args.self.now c.self.inside.shape c.self.inside.nodes c.self.inside.leaves c.self.inside.table.items (sym c.self.view_is) c.self.invariant)

pub returns-in-None : goal.returns-in-None
returns-in-None c = c.in-None.ensures ∙ ap (λ (v : List Loc). number_in v c.args.at.now) (leaves_now c.args.self.now c.self.inside.shape c.self.inside.nodes c.self.inside.leaves c.self.inside.table.items (sym c.self.view_is) c.self.invariant)
