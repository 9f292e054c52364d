use Rattle.masked_cycles.proofs.Staging.{stages_agree}
use Rattle.masked_cycles.proofs.laws.staged_law.Goals as goal

pub returns : goal.returns
returns c = stages_agree
