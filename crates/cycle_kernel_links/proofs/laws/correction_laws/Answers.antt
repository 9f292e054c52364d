use Rattle.cycle_kernel_links.proofs.Corrections.{pairs_stay, replaced_are_corrected}
use Rattle.cycle_kernel_links.proofs.Fluxes.{gathered_are_sent}
use Rattle.cycle_kernel_links.proofs.laws.correction_laws.Goals as goal

pub returns-clause-gathered : goal.returns-clause-gathered
returns-clause-gathered c = gathered_are_sent

pub returns-clause-replaced : goal.returns-clause-replaced
returns-clause-replaced c = replaced_are_corrected

pub returns-clause-stays : goal.returns-clause-stays
returns-clause-stays c = pairs_stay
