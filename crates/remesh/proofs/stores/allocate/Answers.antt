use Rattle.std.proofs.Common.{◌≡◌, ap, sym, ◌∙◌, arith, subst}
use Rattle.cell_block.specs.State.{Entry, Stored, place_of, with_change}
use Rattle.std.proofs.Common.{Some}
use Rattle.remesh.proofs.Filled.{allocated_fills, stands}
use Rattle.remesh.proofs.stores.allocate.Goals as goal

pub returns : goal.returns
returns c =
    let s = c.args.mesh.now in
    let after : Stored = c.add.new.self in
    let e : Entry = record { idle = 0; buf = Some c.args.buf } in
    allocated_fills s after c.reserve.new.self.spares c.args.buf (stands s (place_of c.args.buf) c.tree.ensures.kept c.requires.within) (omega (arith, c.partition-list.ensures.value, c.partition-list.ensures.within, c.tree.ensures.kept.epochs))
    (c.add.ensures.added ∙ ap (λ (m : Stored). record (with_change m (place_of c.args.buf) (Some e)) { spares = after.spares }) c.in_ok-reserve.ensures.rest)
