use Rattle.block_geometry.proofs.Worked as worked
use Rattle.block_geometry.proofs.laws.worked_places.Goals as goal

pub returns : goal.returns
returns c = worked.worked_places
