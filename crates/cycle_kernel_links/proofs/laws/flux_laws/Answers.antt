use Rattle.cycle_kernel_links.proofs.Fluxes.{fluxes_are_listed, updates_are_those}
use Rattle.cycle_kernel_links.proofs.laws.flux_laws.Goals as goal

pub returns-clause-listed : goal.returns-clause-listed
returns-clause-listed c = fluxes_are_listed

pub returns-clause-updated : goal.returns-clause-updated
returns-clause-updated c = updates_are_those
