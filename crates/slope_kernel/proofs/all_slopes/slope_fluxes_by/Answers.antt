use Rattle.std.proofs.Common.{arith}
use Rattle.upwind_fluxes.specs.declared.donor.Donor.TheVariants.{Below, Above}
use Rattle.slope_kernel.proofs.AllSlopes.{one_more_axis}
use Rattle.slope_kernel.proofs.all_slopes.slope_fluxes_by.Goals as goal

pub loop-axis-preserved : goal.loop-axis-preserved
loop-axis-preserved c = record {
  right = one_more_axis c.args.layout.now Below c.args.rates.now c.args.multipliers.now c.args.closed.now c.args.cells.now c.loop-axis.right c.slopes_along.new.into c.loop-axis.axis c.along-upwards.result
      c.args.layout.now.sound c.requires.of_rates c.loop-axis-test.true c.along-upwards.ensures c.slopes_along.ensures.along c.slopes_along.ensures.others c.loop-axis.invariant.right;
  left = one_more_axis c.args.layout.now Above c.args.rates.now c.args.multipliers.now c.args.closed.now c.args.cells.now c.loop-axis.left c.slopes_along-in-loop-axis.new.into c.loop-axis.axis c.along-downwards.result
      c.args.layout.now.sound c.requires.of_rates c.loop-axis-test.true c.along-downwards.ensures c.slopes_along-in-loop-axis.ensures.along c.slopes_along-in-loop-axis.ensures.others c.loop-axis.invariant.left;
}

pub returns-clause-right : goal.returns-clause-right
returns-clause-right c = λ a i u w. c.loop-axis.invariant.right a i (omega (arith, c.loop-axis-test.false)) u w

pub returns-clause-left : goal.returns-clause-left
returns-clause-left c = λ a i u w. c.loop-axis.invariant.left a i (omega (arith, c.loop-axis-test.false)) u w
