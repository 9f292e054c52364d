use Rattle.std.proofs.Common.{◌≡◌, Bool, IfOk, IfErr, subst}
use Rattle.morton_order.specs.declared.space.Loc.{Loc}
use Rattle.block_tree.specs.Blocks.{RefusedByCount, tree_with}
use Rattle.block_tree.proofs.Grown.{grown_is, grown_tree, roomy_set}
use Rattle.block_tree.proofs.tree.Tree.grown.Goals as goal

pub balance-requires-clause-roomy : goal.balance-requires-clause-roomy
balance-requires-clause-roomy c = roomy_set c.args.shape c.args.wanted.now c.in_ok-nodes.nodes c.in_ok-nodes.ensures c.requires.roomy

pub with_roots-requires-clause-tree : goal.with_roots-requires-clause-tree
with_roots-requires-clause-tree c = (grown_tree c.args.shape c.args.wanted.now c.in_ok-nodes.nodes c.balance.new.nodes c.in_ok-balance.field-0 c.in_ok-nodes.ensures c.in_ok-balance.ensures.small c.in_ok-balance.ensures.whole).one_of.tree

pub with_roots-requires-clause-balanced : goal.with_roots-requires-clause-balanced
with_roots-requires-clause-balanced c = (grown_tree c.args.shape c.args.wanted.now c.in_ok-nodes.nodes c.balance.new.nodes c.in_ok-balance.field-0 c.in_ok-nodes.ensures c.in_ok-balance.ensures.small c.in_ok-balance.ensures.whole).one_of.balanced

pub returns-clause-grown : goal.returns-clause-grown
returns-clause-grown c =
    let g = grown_tree c.args.shape c.args.wanted.now c.in_ok-nodes.nodes c.balance.new.nodes c.in_ok-balance.field-0 c.in_ok-nodes.ensures c.in_ok-balance.ensures.small c.in_ok-balance.ensures.whole in
    subst (λ (p : Loc → Bool). IfOk c.with_roots.result (λ tree. tree ≡ tree_with c.args.shape p)) (grown_is c.args.shape c.args.wanted.now c.balance.new.nodes c.requires.shape c.requires.roomy g) c.with_roots.ensures.made

pub returns-clause-fault : goal.returns-clause-fault
returns-clause-fault c =
    let g = grown_tree c.args.shape c.args.wanted.now c.in_ok-nodes.nodes c.balance.new.nodes c.in_ok-balance.field-0 c.in_ok-nodes.ensures c.in_ok-balance.ensures.small c.in_ok-balance.ensures.whole in
    subst (λ (p : Loc → Bool). IfErr c.with_roots.result (RefusedByCount c.args.shape p)) (grown_is c.args.shape c.args.wanted.now c.balance.new.nodes c.requires.shape c.requires.roomy g) c.with_roots.ensures.fault
