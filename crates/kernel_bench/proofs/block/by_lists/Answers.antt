use Rattle.fused_stage.proofs.FittingRates.{fitting_rates_suffice}
use Rattle.fused_stage.proofs.ListedFluxes.{update_after_fluxes}
use Rattle.kernel_bench.proofs.ByRates.{fit_together}
use Rattle.kernel_bench.proofs.block.by_lists.Goals as goal

pub update-requires-clause-passes : goal.update-requires-clause-passes
update-requires-clause-passes c =
    update_after_fluxes.may_be c.args.layout.now c.args.rates.now c.args.closed.now c.args.cells.now c.fluxes_by.new.right c.fluxes_by.new.left c.fluxes_by.ensures.right c.fluxes_by.ensures.left
    (fitting_rates_suffice c.args.layout.now c.args.rates.now c.args.closed.now c.args.cells.now c.requires.cell_list c.requires.proper (fit_together c.args.layout.now.dims c.args.rates.now c.requires.fit) c.requires.small)
