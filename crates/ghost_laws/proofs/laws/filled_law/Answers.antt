use Rattle.ghost_laws.proofs.Filled as filled
use Rattle.ghost_laws.proofs.laws.filled_law.Goals as goal

pub returns : goal.returns
returns c = filled.filled_sees
