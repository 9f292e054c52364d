use Rattle.std.proofs.Common.{◌≡◌, ◌++◌, [], ◌∷◌, ℕ, Option, List, IfSome, length, ap, subst, sym, ◌∙◌, arith}
use Rattle.std.specs.Option.{option_to_list}
use Rattle.std.proofs.lemmas.List.{length_push}
use Rattle.std.proofs.lemmas.List.Elements.{All-pop}
use Rattle.field_bufs.specs.declared.buf.FieldBuf.{FieldBuf}
use Rattle.cell_block.specs.State.{place_of}
use Rattle.remesh.specs.Fields.{IsOnLeaf}
use Rattle.remesh.specs.Stores.{Fills}
use Rattle.remesh.proofs.Filled.{same_twice}
use Rattle.remesh.proofs.LeafFilled.{field_filled, others_stay}
use Rattle.remesh.specs.Leaves.{plain}
use Rattle.remesh.proofs.leaf_stores.store_fields.Goals as goal

pub loop-buf-preserved : goal.loop-buf-preserved
loop-buf-preserved c =
    let n = plain c.args.leaf.now in
    let start = c.args.mesh.now in
    let now = c.loop-buf.mesh in
    let new = c.store.new.mesh in
    let buf = c.in-Some.buf in
    let before = c.loop-buf.invariant in
    let rest : List FieldBuf = c.pop.new.self.items in
    let is : c.loop-buf.bufs.items ≡ rest ++ buf ∷ [] = c.pop.ensures.items ∙ ap (λ (o : Option FieldBuf). rest ++ option_to_list o) c.in-Some.is in
    let popped = All-pop (IsOnLeaf n) c.loop-buf.bufs.items rest c.pop.result c.pop.ensures.items before.shaped in
    let on : IsOnLeaf n buf = subst (λ (o : Option FieldBuf). IfSome o (IsOnLeaf n)) c.in-Some.is popped.1 in
    let fills = subst (Fills now new (place_of buf) buf) c.idle_of-idle.ensures c.in_ok-store.ensures.fills in
    record {
      frame = same_twice start now new before.frame fills.frame;
      whole = c.in_ok-store.ensures.whole;
      counters = fills.counters ∙ before.counters;
      shaped = popped.0;
      filled = field_filled n start.fields now new c.loop-buf.bufs.items rest buf is on fills before.filled;
      others = others_stay n start now new buf on fills before.others;
      epochs = λ list. omega (arith, fills.epochs list, before.epochs list, ap (λ (v : List FieldBuf). length v) is, length_push rest buf);
    }
