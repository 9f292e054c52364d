use Rattle.cycle_kernel_laws.proofs.OwnPairs.{are_own_pairs}
use Rattle.cycle_kernel_laws.proofs.Sees.{ghosts_see}
use Rattle.cycle_kernel_laws.proofs.laws.shown_laws.Goals as goal

pub returns-clause-ghosts : goal.returns-clause-ghosts
returns-clause-ghosts c = ghosts_see

pub returns-clause-pairs : goal.returns-clause-pairs
returns-clause-pairs c = are_own_pairs
