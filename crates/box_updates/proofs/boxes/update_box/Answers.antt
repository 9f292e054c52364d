use Rattle.std.proofs.Common.{length}
use Rattle.cell_boxes.proofs.Rows.{rows_apart, rows_fit}
use Rattle.box_updates.specs.Boxes.{Sources}
use Rattle.box_updates.proofs.Indices.{box_done, box_stays, box_taken}
use Rattle.box_updates.proofs.boxes.update_box.Goals as goal

pub update_planes-requires-clause-apart : goal.update_planes-requires-clause-apart
update_planes-requires-clause-apart g c = rw c.planes_in-planes.ensures (rows_apart c.args.extents c.args.at (length c.args.into.now) c.requires.into)

pub update_planes-requires-clause-into : goal.update_planes-requires-clause-into
update_planes-requires-clause-into g c = rw c.planes_in-planes.ensures (rows_fit c.args.extents c.args.at (length c.args.into.now) c.requires.cells c.requires.into)

pub update_planes-requires-clause-firsts : goal.update_planes-requires-clause-firsts
update_planes-requires-clause-firsts g c = rw c.planes_in-a.ensures (rows_fit c.args.extents c.args.first (length c.args.one.now) c.requires.cells c.requires.firsts)

pub update_planes-requires-clause-seconds : goal.update_planes-requires-clause-seconds
update_planes-requires-clause-seconds g c = rw c.planes_in-b.ensures (rows_fit c.args.extents c.args.second (length c.args.one.now) c.requires.cells c.requires.seconds)

pub update_planes-requires-clause-thirds : goal.update_planes-requires-clause-thirds
update_planes-requires-clause-thirds g c = rw c.planes_in-c.ensures (rows_fit c.args.extents c.args.third (length c.args.other.now) c.requires.cells c.requires.thirds)

pub update_planes-requires-clause-fourths : goal.update_planes-requires-clause-fourths
update_planes-requires-clause-fourths g c = rw c.planes_in-d.ensures (rows_fit c.args.extents c.args.fourth (length c.args.other.now) c.requires.cells c.requires.fourths)

pub update_planes-requires-clause-taken : goal.update_planes-requires-clause-taken
update_planes-requires-clause-taken g c =
    let from : Sources = record { one = c.args.one.now; first = c.args.first; second = c.args.second; other = c.args.other.now; third = c.args.third; fourth = c.args.fourth } in
    rw (c.planes_in-planes.ensures, c.planes_in-a.ensures, c.planes_in-b.ensures, c.planes_in-c.ensures, c.planes_in-d.ensures)
    (box_taken (g.R.RowRule.takes c.args.op.now) c.args.extents c.args.into.now c.args.at from c.requires.taken)

pub returns-clause-inside : goal.returns-clause-inside
returns-clause-inside g c =
    let from : Sources = record { one = c.args.one.now; first = c.args.first; second = c.args.second; other = c.args.other.now; third = c.args.third; fourth = c.args.fourth } in
    box_done (g.R.RowRule.gives c.args.op.now) c.args.extents c.args.into.now c.update_planes.new.into c.args.at from
    c.planes_in-planes.result c.planes_in-a.result c.planes_in-b.result c.planes_in-c.result c.planes_in-d.result
    c.planes_in-planes.ensures c.planes_in-a.ensures c.planes_in-b.ensures c.planes_in-c.ensures c.planes_in-d.ensures c.update_planes.ensures.inside

pub returns-clause-outside : goal.returns-clause-outside
returns-clause-outside g c =
    box_stays c.args.extents c.args.into.now c.update_planes.new.into c.args.at c.planes_in-planes.result c.planes_in-planes.ensures c.update_planes.ensures.outside
