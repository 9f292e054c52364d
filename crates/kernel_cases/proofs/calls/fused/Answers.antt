use Rattle.std.proofs.Common.{arith, refl}
use Rattle.fused_stage.proofs.FittingRates.{fitting_rates_suffice}
use Rattle.kernel_cases.proofs.SmallSums.{below_62}
use Rattle.kernel_cases.proofs.calls.fused.Goals as goal

pub stage-requires-clause-passes : goal.stage-requires-clause-passes
stage-requires-clause-passes c =
    fitting_rates_suffice c.args.layout.now c.args.rates.now c.args.closed c.as_slice-cells.result.now (omega arith) c.requires.proper c.requires.fit (below_62 c.as_slice-cells.result.now (c.if-not-are_small.ensures refl))
