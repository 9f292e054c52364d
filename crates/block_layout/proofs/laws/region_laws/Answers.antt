use Rattle.block_layout.proofs.InBlock.{regions_lie}
use Rattle.block_layout.proofs.laws.region_laws.Goals as goal

pub returns : goal.returns
returns c = regions_lie
