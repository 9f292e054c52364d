use Rattle.std.proofs.Common.{◌∙◌, ap, List, ℕ}
use Rattle.morton_order.specs.Neighbours.{across}
use Rattle.block_tree.specs.Blocks.{is_inner_of, leaves}
use Rattle.flow_laws.specs.Flows.{passed_side}
use Rattle.leaf_stages.proofs.Behinds.{outside_is_none}
use Rattle.leaf_stages.proofs.SideSums.{outside_counts}
use Rattle.leaf_stages.proofs.flows.passed_outside.Goals as goal

pub returns-in-Outside-clause-value : goal.returns-in-Outside-clause-value
returns-in-Outside-clause-value c l get =
    let s = c.args.side in
    let shape = c.args.tree.now.shape in
    outside_counts (across shape l s.axis s.high) c.passed_through.result (passed_side c.args.layout.now c.args.list.now s.axis s.high)
    (outside_is_none shape (is_inner_of c.args.tree.now) (leaves c.args.tree.now) s.axis s.high (across shape l s.axis s.high) (c.in-Outside.ensures l get))
    (c.passed_through.ensures.value ∙ ap (λ (v : List ℕ). passed_side c.args.layout.now v s.axis s.high) c.as_slice.ensures)
