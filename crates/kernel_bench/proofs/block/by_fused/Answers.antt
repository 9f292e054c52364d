use Rattle.fused_stage.proofs.FittingRates.{fitting_rates_suffice}
use Rattle.kernel_bench.proofs.ByRates.{fit_together}
use Rattle.kernel_bench.proofs.block.by_fused.Goals as goal

pub stage-requires-clause-passes : goal.stage-requires-clause-passes
stage-requires-clause-passes c =
    fitting_rates_suffice c.args.layout.now c.args.rates.now c.args.closed.now c.args.cells.now c.requires.cell_list c.requires.proper (fit_together c.args.layout.now.dims c.args.rates.now c.requires.fit) c.requires.small
