use Rattle.stage_works.proofs.Fluxes.{fluxes_are_work}
use Rattle.stage_works.proofs.Updates.{updates_are_work}
use Rattle.stage_works.proofs.laws.stage_works_law.Goals as goal

pub returns-clause-fluxes : goal.returns-clause-fluxes
returns-clause-fluxes c = fluxes_are_work

pub returns-clause-updates : goal.returns-clause-updates
returns-clause-updates c = updates_are_work
