use Rattle.run_laws.proofs.RunFits.{runs_fit}
use Rattle.run_laws.proofs.laws.fit_law.Goals as goal

pub returns : goal.returns
returns c = runs_fit
