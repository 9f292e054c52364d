use Rattle.std.proofs.Common.{◌<◌, refl, subst, arith}
use Rattle.morton_order.specs.Space.{parts}
use Rattle.dense_remesh.specs.declared.origins.Origin.{Origin}
use Rattle.dense_remesh.specs.Parts.{CanTake, child_list}
use Rattle.dense_remesh.proofs.Halves.{sums_step}
use Rattle.remesh.specs.Fields.{old_lists}
use Rattle.remesh.specs.Leaves.{plain}
use Rattle.remesh.proofs.cells.write_sums.Goals as goal

pub write_sums_of-requires-clause-list : goal.write_sums_of-requires-clause-list
write_sums_of-requires-clause-list c =
    let n = plain c.args.leaf.now in
    let few : c.loop-j.j < parts n.layout.dims = omega (arith, c.child_count-j-end.ensures.value, c.loop-j-test.true) in
    subst (λ (o : Origin). CanTake n.layout (old_lists n c.args.field) o) c.requires.origin (c.requires.leaf.can c.args.field c.requires.field) c.loop-j.j few

pub loop-j-preserved : goal.loop-j-preserved
loop-j-preserved c =
    let n = plain c.args.leaf.now in
    let field = old_lists n c.args.field in
    sums_step n.layout field c.args.numbers.now c.loop-j.j (child_list field c.args.numbers.now c.loop-j.j) c.loop-j.into c.write_sums_of.new.into (omega (arith, c.child_count-j-end.ensures.value, c.loop-j-test.true)) refl
    c.in_ok-write_sums_of.ensures.inside c.in_ok-write_sums_of.ensures.outside c.loop-j.invariant
