use Rattle.kernel_laws.proofs.Updated as updated
use Rattle.kernel_laws.proofs.laws.update_law.Goals as goal

pub returns : goal.returns
returns c = updated.updated_is_staged
