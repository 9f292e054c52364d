use Rattle.std.proofs.Common.{◌+◌, ◌-◌, refl, length, slice_index, arith}
use Rattle.restrict_prolong.proofs.SumRows.{fine_cells, fine_row, fine_row_below, one_more_fine_row}
use Rattle.restrict_prolong.proofs.sums.add_rows.Goals as goal

pub row_start-at-requires-clause-cells : goal.row_start-at-requires-clause-cells
row_start-at-requires-clause-cells c = fine_cells c.args.op.now c.args.from.now (length c.args.into.now) c.requires.sums

pub row_start-at-requires-clause-row : goal.row_start-at-requires-clause-row
row_start-at-requires-clause-row c =
    fine_row c.args.op.now c.args.from.now (length c.args.into.now) c.args.row c.loop-b.b _ c.args.plane c.requires.sums c.requires.row c.requires.plane (omega arith) refl

pub add_row-requires-clause-small : goal.add_row-requires-clause-small
add_row-requires-clause-small c =
    fine_row_below c.args.op.now c.args.from.now (length c.args.into.now) c.args.row c.args.plane c.loop-b.b c.row_start-at.result _ c.args.into.now c.loop-b.into c.requires.sums refl (omega arith) (omega arith) (omega arith)
    c.row_start-at.ensures.value c.loop-b.invariant c.requires.small

pub loop-b-preserved : goal.loop-b-preserved
loop-b-preserved c =
    one_more_fine_row c.args.op.now c.args.from.now (length c.args.into.now) c.args.row c.args.plane c.loop-b.b c.row_start-at.result (c.row_start-at.result + slice_index c.args.op.now.fine 0 - c.row_start-at.result) c.args.into.now c.loop-b.into c.add_row.new.into
    c.requires.sums refl (omega arith) (omega arith) c.row_start-at.ensures.value c.loop-b.invariant c.add_row.ensures
