use Rattle.std.proofs.Common.{arith, refl}
use Rattle.kernel_cases.proofs.SmallSums.{sums_small}
use Rattle.kernel_cases.proofs.calls.restricted.Goals as goal

pub restrict-requires-clause-small : goal.restrict-requires-clause-small
restrict-requires-clause-small c = λ i w. sums_small c.args.dims c.args.n c.args.fine.now i (omega (arith, c.if-dims-gt3.false)) (c.if-not-are_small.ensures refl)
