use Rattle.kernel_bench.proofs.SlopePays.{can_pass}
use Rattle.kernel_bench.proofs.block.by_slopes.Goals as goal

pub update-requires-clause-passes : goal.update-requires-clause-passes
update-requires-clause-passes c =
    can_pass c.args.layout.now c.args.rates.now c.args.closed.now c.args.cells.now c.slope_fluxes_by.new.right c.slope_fluxes_by.new.left c.requires.cell_list c.requires.proper c.requires.fit c.requires.small
    c.slope_fluxes_by.ensures.right c.slope_fluxes_by.ensures.left
