use Rattle.std.proofs.Common.{◌+◌, ◌-◌, ◌*◌, ◌∙◌, arith}
use Rattle.strided_rows.proofs.Steps.{put_is_written, one_more_row}
use Rattle.strided_rows.proofs.rows.write_rows.Goals as goal

pub loop-row-preserved : goal.loop-row-preserved
loop-row-preserved g c =
    let a = c.args.from_rows.first + c.loop-row.row * c.args.from_rows.step in
    let b = c.args.into_rows.first + c.loop-row.row * c.args.into_rows.step in
    put_is_written (g.R.RowMap.gives c.args.op.now) c.args.len c.args.from.now a b (a + c.args.len - a) (b + c.args.len - b) c.loop-row.into c.map_row.new.into (omega arith) (omega arith) c.map_row.ensures
    ∙ one_more_row (g.R.RowMap.gives c.args.op.now) c.args.len c.args.from.now c.args.from_rows c.args.into_rows c.loop-row.row c.loop-row.into c.args.into.now c.loop-row.invariant
