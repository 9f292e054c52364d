use Rattle.std.proofs.Common.{◌≡◌, ◌<◌, List, length, true, false, subst, arith}
use Rattle.morton_order.specs.declared.space.Loc.{Loc}
use Rattle.block_tree.proofs.Filling.{roots_false, roots_true}
use Rattle.block_tree.proofs.grow.few_roots.Goals as goal
use Rattle.block_tree.proofs.grow.few_roots.Goals.{else-branch-via-then-branch+else-len-le-MOST_LEAVES, else-branch-via-else-branch}

pub returns-then-len-le-MOST_LEAVES-clause-some : goal.returns-then-len-le-MOST_LEAVES-clause-some
returns-then-len-le-MOST_LEAVES-clause-some c =
    let whole : c.in_ok-push_roots.field-0 ≡ true = cc in
    (roots_true c.args.shape.now c.in_ok-push_roots.field-0 c.new-list.result.items c.push_roots.new.roots.items c.new-list.ensures.items whole c.in_ok-push_roots.ensures.whole, omega arith)

pub returns-else-branch-clause-none : goal.returns-else-branch-clause-none
returns-else-branch-clause-none c = elim c.else-branch.branch [
  | else-branch-via-then-branch+else-len-le-MOST_LEAVES w ↦
      let whole : c.in_ok-push_roots.field-0 ≡ true = cc in
      subst (λ (v : List Loc). 65536 < length v) (roots_true c.args.shape.now c.in_ok-push_roots.field-0 c.new-list.result.items c.push_roots.new.roots.items c.new-list.ensures.items whole c.in_ok-push_roots.ensures.whole) (omega arith)
  | else-branch-via-else-branch w ↦
      let over : c.in_ok-push_roots.field-0 ≡ false = cc in
      roots_false c.args.shape.now c.in_ok-push_roots.field-0 c.new-list.result.items c.push_roots.new.roots.items c.new-list.ensures.items over c.in_ok-push_roots.ensures.whole
]
