use Rattle.kernel_stages.proofs.Stages.{stages_are_the_rules}
use Rattle.kernel_stages.proofs.laws.stage_law.Goals as goal

pub returns : goal.returns
returns c = stages_are_the_rules
