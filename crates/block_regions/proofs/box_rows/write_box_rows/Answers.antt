use Rattle.std.proofs.Common.{◌+◌, ◌-◌, ◌<◌, ◌≤◌, ◌∙◌, length, slice_index, arith}
use Rattle.block_regions.proofs.Rows.{box_given, box_stays, row_put, slice_length}
use Rattle.block_regions.proofs.box_rows.write_box_rows.Goals as goal

pub loop-row-preserved : goal.loop-row-preserved
loop-row-preserved g c =
    let at = c.row_start-at.result in
    let n = slice_index c.args.extents 0 in
    let hr : c.loop-row.row < slice_index c.args.extents 1 = omega arith in
    let hp : c.loop-plane.plane < slice_index c.args.extents 2 = omega arith in
    let room : at + n ≤ length c.loop-row.into = omega (arith, c.row_start-at.ensures.ends) in
    let long = slice_length at n (at + n - at) c.loop-row.into room (omega arith) in
    row_put (g.R.BoxRows.gives c.args.op.now c.args.from.now) c.args.extents c.args.into_box c.loop-row.row c.loop-plane.plane at (at + n - at) c.loop-row.into _ c.write_row.new.into hr hp (omega arith)
    c.row_start-at.ensures.value (c.write_row.auto.into ∙ long) (λ x h. c.write_row.ensures x (omega (arith, long))) c.loop-row.invariant

pub returns-clause-inside : goal.returns-clause-inside
returns-clause-inside g c = λ i w.
    box_given (g.R.BoxRows.gives c.args.op.now c.args.from.now) c.args.extents c.args.into_box c.loop-plane.plane c.args.into.now _ i (omega arith) c.requires.cells c.requires.into c.loop-plane.invariant w

pub returns-clause-outside : goal.returns-clause-outside
returns-clause-outside g c = λ n off.
    box_stays (g.R.BoxRows.gives c.args.op.now c.args.from.now) c.args.extents c.args.into_box c.loop-plane.plane c.args.into.now _ n (omega arith) c.requires.cells c.requires.into c.loop-plane.invariant off
