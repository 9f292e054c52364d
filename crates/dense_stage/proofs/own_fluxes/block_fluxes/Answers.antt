use Rattle.upwind_fluxes.specs.declared.donor.Donor.TheVariants.{Below, Above}
use Rattle.dense_stage.proofs.Fluxes.{fluxes_small, slopes_small}
use Rattle.dense_stage.proofs.own_fluxes.block_fluxes.Goals as goal

pub returns-then-order-eq2-clause-right_small : goal.returns-then-order-eq2-clause-right_small
returns-then-order-eq2-clause-right_small c =
    slopes_small c.args.layout.now c.args.order Below c.args.portions.now.rates c.args.closed.now c.args.cells.now c.slope_fluxes_by.new.right c.args.layout.now.sound.most c.if-order-eq2.true c.requires.proper c.requires.second c.requires.small c.slope_fluxes_by.ensures.right

pub returns-then-order-eq2-clause-left_small : goal.returns-then-order-eq2-clause-left_small
returns-then-order-eq2-clause-left_small c =
    slopes_small c.args.layout.now c.args.order Above c.args.portions.now.rates c.args.closed.now c.args.cells.now c.slope_fluxes_by.new.left c.args.layout.now.sound.most c.if-order-eq2.true c.requires.proper c.requires.second c.requires.small c.slope_fluxes_by.ensures.left

pub returns-else-order-eq2-clause-right_small : goal.returns-else-order-eq2-clause-right_small
returns-else-order-eq2-clause-right_small c =
    fluxes_small c.args.layout.now Below c.args.portions.now.rates c.args.closed.now c.args.cells.now c.fluxes_by.new.right c.args.layout.now.sound.most c.requires.proper c.requires.small c.fluxes_by.ensures.right

pub returns-else-order-eq2-clause-left_small : goal.returns-else-order-eq2-clause-left_small
returns-else-order-eq2-clause-left_small c =
    fluxes_small c.args.layout.now Above c.args.portions.now.rates c.args.closed.now c.args.cells.now c.fluxes_by.new.left c.args.layout.now.sound.most c.requires.proper c.requires.small c.fluxes_by.ensures.left
