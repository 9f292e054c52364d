use Rattle.std.proofs.Common.{Option, subst}
use Rattle.remesh.specs.Fields.{comes}
use Rattle.remesh.specs.Sources.{IsNext}
use Rattle.remesh.proofs.Buffers.{coming_more}
use Rattle.remesh.specs.Leaves.{plain}
use Rattle.remesh.proofs.fields.coming_fields.Goals as goal

pub loop-field-preserved : goal.loop-field-preserved
loop-field-preserved c =
    let n = plain c.args.leaf.now in
    coming_more n c.loop-field.from c.in-Some.field c.loop-field.bufs c.push.new.self c.in_ok-coming_field.field-0
    (subst (IsNext (comes n) c.loop-field.from n.old.fields) c.in-Some.is c.next_coming.ensures) c.in_ok-coming_field.ensures.buffer c.in_ok-coming_field.ensures.field c.in_ok-push.ensures.ok c.loop-field.invariant
