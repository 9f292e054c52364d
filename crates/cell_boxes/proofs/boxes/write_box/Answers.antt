use Rattle.std.proofs.Common.{length}
use Rattle.cell_boxes.proofs.Rows.{rows_fit, box-inside, box-outside}
use Rattle.cell_boxes.proofs.boxes.write_box.Goals as goal

pub returns-clause-inside : goal.returns-clause-inside
returns-clause-inside g c = λ i w.
    rw (c.write_planes.ensures, c.planes_in-from_planes.ensures, c.planes_in-into_planes.ensures)
    (box-inside (g.R.RowMap.gives c.args.op.now) c.args.extents c.args.from.now c.args.from_box c.args.into_box c.args.into.now i c.requires.cells c.requires.from c.requires.into w)

pub returns-clause-outside : goal.returns-clause-outside
returns-clause-outside g c = λ n off.
    rw (c.write_planes.ensures, c.planes_in-from_planes.ensures, c.planes_in-into_planes.ensures)
    (box-outside (g.R.RowMap.gives c.args.op.now) c.args.extents c.args.from.now c.args.from_box c.args.into_box c.args.into.now n c.requires.cells c.requires.from c.requires.into off)

pub write_planes-requires-clause-from : goal.write_planes-requires-clause-from
write_planes-requires-clause-from g c = rw c.planes_in-from_planes.ensures (rows_fit c.args.extents c.args.from_box (length c.args.from.now) c.requires.cells c.requires.from)

pub write_planes-requires-clause-into : goal.write_planes-requires-clause-into
write_planes-requires-clause-into g c = rw c.planes_in-into_planes.ensures (rows_fit c.args.extents c.args.into_box (length c.args.into.now) c.requires.cells c.requires.into)
