use Rattle.std.proofs.Common.{arith}
use Rattle.kernel_bench.proofs.ByRates.{are_proper, fit_slopes}
use Rattle.kernel_bench.proofs.rates.rates_of.Goals as goal

pub returns-clause-proper : goal.returns-clause-proper
returns-clause-proper c = are_proper 100 c.left_of.result 1000 (omega arith) (omega arith) (omega arith) (omega (arith, c.left_of.ensures))

pub returns-clause-fit : goal.returns-clause-fit
returns-clause-fit c = λ dims h. fit_slopes c.left_of.result dims c.left_of.ensures h
