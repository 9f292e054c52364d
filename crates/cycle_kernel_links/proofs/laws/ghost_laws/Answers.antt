use Rattle.cycle_kernel_links.proofs.Ghosts.{filled_are_ghosts, ghosts_stay}
use Rattle.cycle_kernel_links.proofs.Parts.{filled_is_sent}
use Rattle.cycle_kernel_links.proofs.laws.ghost_laws.Goals as goal

pub returns-clause-filled : goal.returns-clause-filled
returns-clause-filled c = filled_is_sent

pub returns-clause-unfilled : goal.returns-clause-unfilled
returns-clause-unfilled c = filled_are_ghosts

pub returns-clause-stays : goal.returns-clause-stays
returns-clause-stays c = ghosts_stay
