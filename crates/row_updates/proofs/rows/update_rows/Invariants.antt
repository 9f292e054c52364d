use Rattle.row_updates.proofs.RowSteps.{RowsAre}
use Rattle.row_updates.proofs.rows.update_rows.Given as goal

abbrev pub invariant-loop-row : goal.invariant-loop-row
invariant-loop-row g l = RowsAre (g.R.RowRule.gives l.op) (record { one = l.one; first = l.first; second = l.second; other = l.other; third = l.third; fourth = l.fourth }) l.len l.row l.at l.initial.into l.into
