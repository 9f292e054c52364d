use Rattle.upwind_portions.proofs.Multipliers.{multiplier_is_exact}
use Rattle.upwind_portions.proofs.portions.multiplier_law.Goals as goal

pub returns : goal.returns
returns c = multiplier_is_exact
