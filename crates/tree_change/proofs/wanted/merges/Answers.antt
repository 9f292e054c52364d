use Rattle.std.proofs.Common.{◌≡◌, true, ap, subst, sym, ◌∙◌}
use Rattle.morton_order.specs.declared.space.Shape.{Shape}
use Rattle.morton_order.specs.Space.{IsLoc, child}
use Rattle.block_tree.specs.Next.{is_merge}
use Rattle.block_tree.proofs.Places.{loc_in}
use Rattle.tree_change.specs.Tagged.{tag_of}
use Rattle.tree_change.proofs.Following.{all_step}
use Rattle.tree_change.proofs.wanted.merges.Goals as goal

pub child-requires-clause-valid : goal.child-requires-clause-valid
child-requires-clause-valid c = subst (λ (s : Shape). IsLoc s.dims c.args.at.now) (sym c.shape.ensures) (loc_in c.args.tree.now.shape c.args.at.now c.len.ensures.kept.shape c.requires.inside)

pub loop-j-preserved : goal.loop-j-preserved
loop-j-preserved c =
    let yes_merge : c.may_merge.result ≡ true = cc in
    let is = c.may_merge.ensures ∙ ap is_merge (c.tag.ensures ∙ ap (tag_of c.args.tree.now c.args.tags.now) (c.child.ensures.part ∙ ap (λ (s : Shape). child s.dims c.args.at.now c.loop-j.j) c.shape.ensures)) in
    all_step (λ i. is_merge (tag_of c.args.tree.now c.args.tags.now (child c.args.tree.now.shape.dims c.args.at.now i))) _ c.loop-j.j c.parts-j-end.result c.loop-j-test.true c.loop-j.invariant (sym is ∙ yes_merge)
