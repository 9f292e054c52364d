use Rattle.restrict_prolong.proofs.Restored.{shares_restored}
use Rattle.restrict_prolong.proofs.laws.restriction_laws.Goals as goal

pub returns : goal.returns
returns c = shares_restored
