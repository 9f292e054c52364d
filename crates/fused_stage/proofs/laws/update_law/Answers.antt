use Rattle.fused_stage.proofs.ListedFluxes.{update_after_fluxes}
use Rattle.fused_stage.proofs.laws.update_law.Goals as goal

pub returns : goal.returns
returns c = update_after_fluxes
