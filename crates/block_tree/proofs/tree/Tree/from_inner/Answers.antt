use Rattle.std.proofs.Common.{◌≡◌, ◌≤◌, Bool, List, IfOk, length, subst, sym, ap, arith, ◌∙◌}
use Rattle.morton_order.specs.declared.space.Loc.{Loc}
use Rattle.block_tree.specs.Tree.{IsBalanced, IsTree, is_listed}
use Rattle.block_tree.specs.Leaves.{leaves_of}
use Rattle.block_tree.specs.Blocks.{tree_with}
use Rattle.block_tree.proofs.Counting.{leaf_count}
use Rattle.block_tree.proofs.Numbers.{set_listed}
use Rattle.block_tree.proofs.tree.Tree.from_inner.Goals as goal

pub list_roots-requires : goal.list_roots-requires
list_roots-requires c = let count = leaf_count c.args.shape (is_listed c.args.inner.now) c.requires.shape in let few = c.requires.few in omega arith

pub with_leaves-requires-clause-tree : goal.with_leaves-requires-clause-tree
with_leaves-requires-clause-tree c = subst (λ (p : Loc → Bool). IsTree c.args.shape p) (sym (ap is_listed c.in_ok-nodes.ensures ∙ set_listed c.args.inner.now)) c.requires.tree

pub with_leaves-requires-clause-balanced : goal.with_leaves-requires-clause-balanced
with_leaves-requires-clause-balanced c = subst (λ (p : Loc → Bool). IsBalanced c.args.shape p) (sym (ap is_listed c.in_ok-nodes.ensures ∙ set_listed c.args.inner.now)) c.requires.balanced

pub with_leaves-requires-clause-few : goal.with_leaves-requires-clause-few
with_leaves-requires-clause-few c =
    subst (λ (v : List Loc). length v ≤ 65536) (sym (c.as_slice-2.ensures.value ∙ c.in_ok-leaves.ensures ∙ ap (leaves_of c.args.shape) (ap is_listed c.in_ok-nodes.ensures ∙ set_listed c.args.inner.now))) c.requires.few

pub returns : goal.returns
returns c = subst (λ (p : Loc → Bool). IfOk c.with_leaves.result (λ tree. tree ≡ tree_with c.args.shape p)) (ap is_listed c.in_ok-nodes.ensures ∙ set_listed c.args.inner.now) c.with_leaves.ensures
