use Rattle.std.proofs.Common.{◌<◌, length, subst, sym, ◌∙◌}
use Rattle.field_bufs.specs.declared.buf.FieldBuf.{FieldBuf}
use Rattle.task_meshes.specs.Meshes.{mesh_of}
use Rattle.task_meshes.specs.Orders.{no_buf}
use Rattle.task_meshes.proofs.Lists.{same_item}
use Rattle.sent_letters.specs.Sent.{MayMakePart, letter_to}
use Rattle.sent_letters.proofs.parts.parts_to.Goals as goal

pub part_of-requires-clause-may : goal.part_of-requires-clause-may
part_of-requires-clause-may c =
    let bufs = c.args.from.now.bufs.now in
    let few : c.loop-k.k < length bufs = c.loop-k-test.true in
    let here = same_item bufs c.loop-k.k c.index-from-k.result no_buf few c.index-from-k.is in
    subst (λ (v : FieldBuf). MayMakePart c.args.from.now.kind (mesh_of c.args.from.now.on.now) (letter_to c.args.from.now c.args.side c.args.to) v) (sym here ∙ c.index-from-k.is) (c.requires.may c.loop-k.k few)
