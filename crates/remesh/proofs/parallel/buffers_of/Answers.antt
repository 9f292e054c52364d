use Rattle.std.proofs.Common.{List, subst, sym}
use Rattle.std.proofs.lemmas.Result.{IfOk-weaker}
use Rattle.field_bufs.specs.declared.buf.FieldBuf.{FieldBuf}
use Rattle.remesh.specs.Carries.{AreBuffersOn}
use Rattle.remesh.specs.Fields.{AreOnLeaf, CanCarry}
use Rattle.remesh.specs.Leaves.{LeafOf, plain}
use Rattle.remesh.proofs.parallel.buffers_of.Goals as goal

pub coming_fields-requires : goal.coming_fields-requires
coming_fields-requires c = subst CanCarry (sym c.leaf_with-leaf.ensures) c.requires.carry

pub returns : goal.returns
unfolding AreBuffersOn
returns c =
    let l = c.args.layout.now in
    IfOk-weaker c.coming_fields.result (AreOnLeaf (plain c.leaf_with-leaf.result)) (AreBuffersOn l c.args.old.now c.args.next.now c.args.origins.now c.args.number)
    (λ bufs on. subst (λ (n : LeafOf). AreOnLeaf n bufs) c.leaf_with-leaf.ensures on) c.coming_fields.ensures
