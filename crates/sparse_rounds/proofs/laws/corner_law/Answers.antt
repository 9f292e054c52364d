use Rattle.sparse_rounds.proofs.Corners.{corners_meet}
use Rattle.sparse_rounds.proofs.laws.corner_law.Goals as goal

pub returns : goal.returns
returns c = corners_meet
