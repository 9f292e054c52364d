use Rattle.ghost_laws.proofs.Worked as worked
use Rattle.ghost_laws.proofs.laws.worked_indices.Goals as goal

pub returns : goal.returns
returns c = worked.worked_indices
