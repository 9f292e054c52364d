use Rattle.std.proofs.Common.{◌≡◌}
use Rattle.strided_rows.specs.Written.{rows_written}
use Rattle.strided_rows.proofs.rows.write_rows.Given as goal

abbrev pub invariant-loop-row : goal.invariant-loop-row
invariant-loop-row g l = l.into ≡ rows_written (g.R.RowMap.gives l.op) l.len l.from l.from_rows l.into_rows l.row l.initial.into
