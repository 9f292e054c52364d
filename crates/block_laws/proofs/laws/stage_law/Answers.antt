use Rattle.block_laws.proofs.Updates as updates
use Rattle.block_laws.proofs.laws.stage_law.Goals as goal

pub returns : goal.returns
returns c = updates.update_is_stage
