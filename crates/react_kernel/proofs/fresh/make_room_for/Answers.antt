use Rattle.std.proofs.Common.{◌∙◌, sym, length}
use Rattle.react_kernel.proofs.Inserted.{made_room}
use Rattle.react_kernel.proofs.fresh.make_room_for.Goals as goal

pub returns-clause-made : goal.returns-clause-made
returns-clause-made c =
    (made_room c.args.layout.now c.args.fresh.block c.args.fresh.stamp (length c.args.cell.now) c.args.field c.count_below-at.result c.args.bufs.now c.args.made.now.items c.deref.result.now c.deref-2.result.now c.insert.new.self.items c.args.cell.now c.in_ok-buf.buf
    c.requires.made (sym c.is_there.ensures ∙ c.if-is_there.false) c.deref.ensures.value (sym c.is_there-else-is_there.ensures ∙ c.if-is_there-2.false) c.requires.within c.in_ok-buf.ensures
    c.deref-2.ensures.value c.count_below-at.ensures.value c.count_below-at.ensures.most c.if-cell-field-eq0.false c.in_ok-insert.ensures.items).0

pub returns-clause-room : goal.returns-clause-room
returns-clause-room c =
    (made_room c.args.layout.now c.args.fresh.block c.args.fresh.stamp (length c.args.cell.now) c.args.field c.count_below-at.result c.args.bufs.now c.args.made.now.items c.deref.result.now c.deref-2.result.now c.insert.new.self.items c.args.cell.now c.in_ok-buf.buf
    c.requires.made (sym c.is_there.ensures ∙ c.if-is_there.false) c.deref.ensures.value (sym c.is_there-else-is_there.ensures ∙ c.if-is_there-2.false) c.requires.within c.in_ok-buf.ensures
    c.deref-2.ensures.value c.count_below-at.ensures.value c.count_below-at.ensures.most c.if-cell-field-eq0.false c.in_ok-insert.ensures.items).1
