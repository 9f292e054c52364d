use Rattle.block_laws.proofs.OwnPairs as own_pairs
use Rattle.block_laws.proofs.laws.first_order_law.Goals as goal

pub returns : goal.returns
returns c = own_pairs.first_order_pairs
