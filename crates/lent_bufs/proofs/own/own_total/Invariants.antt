use Rattle.std.proofs.Common.{◌≡◌, ◌*◌, ◌^◌, ◌≤◌}
use Rattle.cycle_kernels.specs.Lists.{own_totals}
use Rattle.lent_bufs.proofs.Rows.{rows_sum}
use Rattle.lent_bufs.proofs.own.own_total.Given as goal

abbrev pub invariant-loop-row : goal.invariant-loop-row
invariant-loop-row l = record {
  total : l.total ≡ rows_sum l.layout (own_totals l.layout l.cells) l.row;
  most : l.total ≤ l.row * (64 * 2 ^ 64);
}
