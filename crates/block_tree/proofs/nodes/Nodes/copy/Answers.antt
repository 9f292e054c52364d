use Rattle.std.proofs.Common.{◌≡◌, List, [], IfOk, ap, subst, ◌∙◌}
use Rattle.morton_order.specs.declared.space.Loc.{Loc}
use Rattle.block_tree.specs.Nodes.{with_nodes}
use Rattle.block_tree.proofs.Numbers.{set_of_distinct}
use Rattle.block_tree.proofs.nodes.Nodes.copy.Goals as goal

pub returns : goal.returns
returns c = subst (λ (v : List Loc). IfOk c.from_slice.result (λ nodes. nodes ≡ v)) (ap (with_nodes []) (c.as_slice.ensures.keys ∙ c.self.view_is) ∙ set_of_distinct c.args.self.now c.len.ensures.distinct) c.from_slice.ensures
