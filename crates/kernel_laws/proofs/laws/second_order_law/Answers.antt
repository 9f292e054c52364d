use Rattle.kernel_laws.proofs.Slopes as slopes
use Rattle.kernel_laws.proofs.laws.second_order_law.Goals as goal

pub returns : goal.returns
returns c = slopes.second_order_pairs
