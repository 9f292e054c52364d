use Rattle.std.proofs.Common.{arith}
use Rattle.mesh_num.proofs.Splits.{portion-split}
use Rattle.mesh_num.proofs.portions.portion.Goals as goal

pub returns-then-d-from-clause-value : goal.returns-then-d-from-clause-value
returns-then-d-from-clause-value c = portion-split c.args.q c.args.c c.args.d (omega arith)
