use Rattle.cycle_kernel_bounds.proofs.Exchanges.{ghosts_are_small, parts_may_be_filled}
use Rattle.cycle_kernel_bounds.proofs.laws.exchange_bounds.Goals as goal

pub returns-clause-parts : goal.returns-clause-parts
returns-clause-parts c = parts_may_be_filled

pub returns-clause-ghosts : goal.returns-clause-ghosts
returns-clause-ghosts c = ghosts_are_small
