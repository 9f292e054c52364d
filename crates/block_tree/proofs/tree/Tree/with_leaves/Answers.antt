use Rattle.std.proofs.Common.{◌≤◌, List, length, subst, sym, ◌∙◌}
use Rattle.morton_order.specs.declared.space.Loc.{Loc}
use Rattle.block_tree.proofs.Grown.{keeps, leaf_set, leaves_inside}
use Rattle.block_tree.proofs.tree.Tree.with_leaves.Goals as goal

pub table_of-requires-clause-few : goal.table_of-requires-clause-few
table_of-requires-clause-few c =
    let e = leaf_set c.args.shape c.args.nodes c.args.leaves.now c.in_ok-leaves.leaves c.requires.shape c.requires.tree c.requires.leaves c.in_ok-leaves.ensures in
    subst (λ (v : List Loc). length v ≤ 65536) (sym e) c.requires.few

pub table_of-requires-clause-valid : goal.table_of-requires-clause-valid
table_of-requires-clause-valid c =
    let e = leaf_set c.args.shape c.args.nodes c.args.leaves.now c.in_ok-leaves.leaves c.requires.shape c.requires.tree c.requires.leaves c.in_ok-leaves.ensures in
    leaves_inside c.args.shape c.args.nodes c.in_ok-leaves.leaves c.requires.shape c.requires.tree (e ∙ c.requires.leaves)

pub invariant_of-result : goal.invariant_of-result
invariant_of-result c = keeps c.args.shape c.args.nodes c.args.leaves.now c.in_ok-leaves.leaves c.in_ok-table.table.items c.requires.shape c.requires.tree c.requires.balanced c.requires.leaves c.requires.few c.in_ok-leaves.ensures c.in_ok-table.ensures
