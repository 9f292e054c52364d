use Rattle.std.proofs.Common.{◌≡◌, ◌≤◌, Bool, List, IfOk, IfErr, length, arith, ap, subst, sym, ◌∙◌}
use Rattle.morton_order.specs.declared.space.Loc.{Loc}
use Rattle.morton_order.specs.declared.space.Shape.{Shape}
use Rattle.block_tree.specs.Leaves.{roots}
use Rattle.block_tree.specs.Blocks.{RefusedByCount, is_inner_of, tree_with}
use Rattle.block_tree.specs.Next.{IsNear, IsNext}
use Rattle.block_tree.specs.Worklist.{AreRoomy}
use Rattle.tree_change.specs.Tagged.{next_of, tag_of}
use Rattle.tree_change.proofs.Following.{carry, few_roots, listed_so, listing_roomy, made, unchanged, value_least, value_near}
use Rattle.tree_change.proofs.next.next_tree.Goals as goal

pub returns-then-len-kept-clause-next : goal.returns-then-len-kept-clause-next
returns-then-len-kept-clause-next c =
    let first = ap length c.in_ok-wanted.ensures in
    let second = ap length (listed_so c.args.tree.now c.args.tags.now c.inner_nodes-nodes.result.now c.leaves.result.now c.in_ok-wanted.wanted.items c.push_refined.new.wanted.items c.in_ok-wanted.ensures c.leaves.ensures c.in_ok-push_refined.ensures) in
    c.in_ok-copy.ensures ∙ unchanged c.args.tree.now c.args.tags.now c.inner_nodes-nodes.result.now c.len.ensures.kept c.inner_nodes-nodes.ensures (omega arith) (omega arith)

pub returns-then-len-kept-clause-least : goal.returns-then-len-kept-clause-least
returns-then-len-kept-clause-least c =
    let first = ap length c.in_ok-wanted.ensures in
    let second = ap length (listed_so c.args.tree.now c.args.tags.now c.inner_nodes-nodes.result.now c.leaves.result.now c.in_ok-wanted.wanted.items c.push_refined.new.wanted.items c.in_ok-wanted.ensures c.leaves.ensures c.in_ok-push_refined.ensures) in
    value_least c.args.tree.now c.args.tags.now c.len.ensures.kept c.requires c.in_ok-copy.field-0 (c.in_ok-copy.ensures ∙ unchanged c.args.tree.now c.args.tags.now c.inner_nodes-nodes.result.now c.len.ensures.kept c.inner_nodes-nodes.ensures (omega arith) (omega arith))

pub returns-then-len-kept-clause-near : goal.returns-then-len-kept-clause-near
returns-then-len-kept-clause-near c =
    let first = ap length c.in_ok-wanted.ensures in
    let second = ap length (listed_so c.args.tree.now c.args.tags.now c.inner_nodes-nodes.result.now c.leaves.result.now c.in_ok-wanted.wanted.items c.push_refined.new.wanted.items c.in_ok-wanted.ensures c.leaves.ensures c.in_ok-push_refined.ensures) in
    value_near c.args.tree.now c.args.tags.now c.len.ensures.kept c.requires c.in_ok-copy.field-0 (c.in_ok-copy.ensures ∙ unchanged c.args.tree.now c.args.tags.now c.inner_nodes-nodes.result.now c.len.ensures.kept c.inner_nodes-nodes.ensures (omega arith) (omega arith))

pub grown-requires-clause-few : goal.grown-requires-clause-few
grown-requires-clause-few c = subst (λ (s : Shape). length (roots s) ≤ 65536) (sym c.shape.ensures) (few_roots c.args.tree.now c.len.ensures.kept)

pub grown-requires-clause-roomy : goal.grown-requires-clause-roomy
grown-requires-clause-roomy c =
    subst (λ (s : Shape). AreRoomy s c.as_slice.result.now) (sym c.shape.ensures)
    (subst (λ (v : List Loc). AreRoomy c.args.tree.now.shape v) (sym (c.as_slice.ensures.value ∙ (listed_so c.args.tree.now c.args.tags.now c.inner_nodes-nodes.result.now c.leaves.result.now c.in_ok-wanted.wanted.items c.push_refined.new.wanted.items c.in_ok-wanted.ensures c.leaves.ensures c.in_ok-push_refined.ensures))) (listing_roomy c.args.tree.now c.args.tags.now c.inner_nodes-nodes.result.now c.len.ensures.kept c.requires c.inner_nodes-nodes.ensures))

pub returns-clause-next : goal.returns-clause-next
returns-clause-next c = carry c.args.tree.now c.args.tags.now c.inner_nodes-nodes.result.now c.shape.result.now c.as_slice.result.now c.len.ensures.kept c.inner_nodes-nodes.ensures c.shape.ensures (c.as_slice.ensures.value ∙ (listed_so c.args.tree.now c.args.tags.now c.inner_nodes-nodes.result.now c.leaves.result.now c.in_ok-wanted.wanted.items c.push_refined.new.wanted.items c.in_ok-wanted.ensures c.leaves.ensures c.in_ok-push_refined.ensures))
    (λ (s : Shape) (p : Loc → Bool). IfOk c.grown.result (λ tree. tree ≡ tree_with s p)) c.grown.ensures.grown

pub returns-clause-least : goal.returns-clause-least
returns-clause-least c = made (λ next. IsNext c.args.tree.now.shape (is_inner_of c.args.tree.now) (tag_of c.args.tree.now c.args.tags.now) (is_inner_of next)) c.grown.result (tree_with c.args.tree.now.shape (next_of c.args.tree.now c.args.tags.now)) (value_least c.args.tree.now c.args.tags.now c.len.ensures.kept c.requires)
    (carry c.args.tree.now c.args.tags.now c.inner_nodes-nodes.result.now c.shape.result.now c.as_slice.result.now c.len.ensures.kept c.inner_nodes-nodes.ensures c.shape.ensures (c.as_slice.ensures.value ∙ (listed_so c.args.tree.now c.args.tags.now c.inner_nodes-nodes.result.now c.leaves.result.now c.in_ok-wanted.wanted.items c.push_refined.new.wanted.items c.in_ok-wanted.ensures c.leaves.ensures c.in_ok-push_refined.ensures))
    (λ (s : Shape) (p : Loc → Bool). IfOk c.grown.result (λ tree. tree ≡ tree_with s p)) c.grown.ensures.grown)

pub returns-clause-near : goal.returns-clause-near
returns-clause-near c = made (λ next. IsNear c.args.tree.now.shape (is_inner_of c.args.tree.now) (is_inner_of next)) c.grown.result (tree_with c.args.tree.now.shape (next_of c.args.tree.now c.args.tags.now)) (value_near c.args.tree.now c.args.tags.now c.len.ensures.kept c.requires)
    (carry c.args.tree.now c.args.tags.now c.inner_nodes-nodes.result.now c.shape.result.now c.as_slice.result.now c.len.ensures.kept c.inner_nodes-nodes.ensures c.shape.ensures (c.as_slice.ensures.value ∙ (listed_so c.args.tree.now c.args.tags.now c.inner_nodes-nodes.result.now c.leaves.result.now c.in_ok-wanted.wanted.items c.push_refined.new.wanted.items c.in_ok-wanted.ensures c.leaves.ensures c.in_ok-push_refined.ensures))
    (λ (s : Shape) (p : Loc → Bool). IfOk c.grown.result (λ tree. tree ≡ tree_with s p)) c.grown.ensures.grown)

pub returns-clause-fault : goal.returns-clause-fault
returns-clause-fault c = carry c.args.tree.now c.args.tags.now c.inner_nodes-nodes.result.now c.shape.result.now c.as_slice.result.now c.len.ensures.kept c.inner_nodes-nodes.ensures c.shape.ensures (c.as_slice.ensures.value ∙ (listed_so c.args.tree.now c.args.tags.now c.inner_nodes-nodes.result.now c.leaves.result.now c.in_ok-wanted.wanted.items c.push_refined.new.wanted.items c.in_ok-wanted.ensures c.leaves.ensures c.in_ok-push_refined.ensures))
    (λ (s : Shape) (p : Loc → Bool). IfErr c.grown.result (RefusedByCount s p)) c.grown.ensures.fault
