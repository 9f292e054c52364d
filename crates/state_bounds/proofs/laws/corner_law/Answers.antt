use Rattle.state_bounds.proofs.Corners.{corners_stay_empty}
use Rattle.state_bounds.proofs.laws.corner_law.Goals as goal

pub returns : goal.returns
returns c = corners_stay_empty
