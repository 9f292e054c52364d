use Rattle.std.proofs.Common.{arith}
use Rattle.lent_bufs.proofs.Rows.{cut_row}
use Rattle.lent_bufs.proofs.own.own_row.Goals as goal

pub returns-clause-totals : goal.returns-clause-totals
returns-clause-totals c = λ x small. cut_row c.args.layout.now c.args.cells.now c.args.row x c.row_start-first.result _ c.requires.row small c.row_start-first.ensures.place (omega arith)
