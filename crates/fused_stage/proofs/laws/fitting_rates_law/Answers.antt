use Rattle.fused_stage.proofs.FittingRates.{fitting_rates_suffice}
use Rattle.fused_stage.proofs.laws.fitting_rates_law.Goals as goal

pub returns : goal.returns
returns c = fitting_rates_suffice
