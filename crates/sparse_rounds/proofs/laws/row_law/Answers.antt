use Rattle.sparse_rounds.proofs.Rows.{rows_meet}
use Rattle.sparse_rounds.proofs.laws.row_law.Goals as goal

pub returns : goal.returns
returns c = rows_meet
