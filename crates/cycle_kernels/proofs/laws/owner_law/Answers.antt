use Rattle.cycle_kernels.proofs.Owners.{owned}
use Rattle.cycle_kernels.proofs.laws.owner_law.Goals as goal

pub returns : goal.returns
returns c = owned
