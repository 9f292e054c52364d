use Rattle.pair_laws.proofs.InRows as in_rows
use Rattle.pair_laws.proofs.laws.row_pair_law.Goals as goal

pub returns : goal.returns
returns c = in_rows.pairs_in_rows
