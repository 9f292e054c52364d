use Rattle.block_layout.proofs.Boxes.{number_laws}
use Rattle.block_layout.proofs.laws.index_laws.Goals as goal

pub returns : goal.returns
returns c = number_laws
