use Rattle.std.proofs.Common.{◌+◌, arith, subst, sym}
use Rattle.cycle_openings.proofs.Copied.{AreFieldsBelow, added}
use Rattle.cycle_openings.proofs.leaf_fields.fields_on.Goals as goal

pub overflow_add-from : goal.overflow_add-from
overflow_add-from c = omega (arith, c.in-Some.ensures.found.within, c.tree.ensures.kept.few_fields)

pub loop-field-preserved : goal.loop-field-preserved
loop-field-preserved c =
    subst (AreFieldsBelow c.args.mesh.now c.args.leaf (c.in-Some.field + 1)) (sym c.in_ok-push.ensures.ok)
    (added c.args.mesh.now c.args.leaf c.loop-field.from c.in-Some.field c.loop-field.fields c.in_ok-copy.copy
    c.in-Some.ensures.found c.loop-field.invariant c.in_ok-copy.ensures.field c.in_ok-copy.ensures.there)
