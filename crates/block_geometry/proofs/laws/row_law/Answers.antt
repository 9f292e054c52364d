use Rattle.block_geometry.proofs.Seen as seen
use Rattle.block_geometry.proofs.laws.row_law.Goals as goal

pub returns : goal.returns
returns c = seen.rows_are_looks
