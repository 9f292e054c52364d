use Rattle.std.proofs.Common.{◌∙◌, ap, sym, subst, arith, length-set}
use Rattle.morton_order.specs.declared.space.Shape.{Shape}
use Rattle.morton_order.specs.Space.{IsLoc}
use Rattle.block_tree.proofs.Places.{loc_in}
use Rattle.dense_remesh.proofs.Numbers.{all_none, children_step, none_finer}
use Rattle.dense_remesh.proofs.origins.child_leaves.Goals as goal

pub returns-then-at-eq10 : goal.returns-then-at-eq10
returns-then-at-eq10 c = λ j small. all_none j ∙ sym (none_finer c.args.tree.now c.len-count.ensures.kept _ (omega (arith, c.if-at-eq10.true)))

pub child-requires-clause-valid : goal.child-requires-clause-valid
child-requires-clause-valid c = subst (λ (s : Shape). IsLoc s.dims c.args.at.now) (sym c.shape.ensures) (loc_in c.args.tree.now.shape c.args.at.now c.len-count.ensures.kept.shape c.requires)

pub loop-j-preserved : goal.loop-j-preserved
loop-j-preserved c = record {
  long = simp length-set c.loop-j.invariant.long;
  found = children_step c.args.tree.now c.args.at.now c.loop-j.numbers c.loop-j.j c.shape.result.now.dims c.child.result c.find.result c.loop-j.invariant.long (omega arith) c.child.ensures.part (ap (λ (s : Shape). s.dims) c.shape.ensures) c.find.ensures c.loop-j.invariant.found;
}
