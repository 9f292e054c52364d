use Rattle.std.proofs.Common.{◌∙◌, arith, subst, sym}
use Rattle.block_layout.specs.Layouts.{cells_along}
use Rattle.fused_stage.specs.Layers.{AxisPass, CanPassLayers, HasLayers, after_axis}
use Rattle.fused_stage.proofs.Axes.{all_staged, begun_staged, can_begin, can_go_on, one_more_axis, pass_is}
use Rattle.fused_stage.proofs.block_stage.stage.Goals as goal

pub pass_along-requires-clause-passes : goal.pass_along-requires-clause-passes
pass_along-requires-clause-passes c =
    subst (λ (x : AxisPass). CanPassLayers x 0 (cells_along c.args.layout.now 0) c.args.into.now)
    (sym (pass_is c.args.layout.now c.args.rates.now c.args.multipliers.now c.args.closed.now c.args.cells.now (λ _ here. here) 0 c.along-right.result c.along-left.result (omega arith) c.requires.of_rates c.along-right.ensures c.along-left.ensures))
    (can_begin c.args.layout.now c.args.rates.now c.args.closed.now c.args.cells.now c.args.into.now c.args.layout.now.sound c.requires.passes)

pub loop-axis-init : goal.loop-axis-init
loop-axis-init c =
    begun_staged c.args.layout.now c.args.rates.now c.args.closed.now c.args.cells.now c.args.into.now c.pass_along.new.into
    (subst (λ (x : AxisPass). HasLayers (after_axis x) c.args.layout.now 0 0 (cells_along c.args.layout.now 0) c.args.into.now c.pass_along.new.into)
    (pass_is c.args.layout.now c.args.rates.now c.args.multipliers.now c.args.closed.now c.args.cells.now (λ _ here. here) 0 c.along-right.result c.along-left.result (omega arith) c.requires.of_rates c.along-right.ensures c.along-left.ensures)
    c.pass_along.ensures)

pub pass_along-requires-in-loop-axis-clause-passes : goal.pass_along-requires-in-loop-axis-clause-passes
pass_along-requires-in-loop-axis-clause-passes c =
    subst (λ (x : AxisPass). CanPassLayers x 0 (cells_along c.args.layout.now c.loop-axis.axis) c.loop-axis.into)
    (sym (pass_is c.args.layout.now c.args.rates.now c.args.multipliers.now c.args.closed.now c.args.cells.now (λ written _. written) c.loop-axis.axis c.along-right-in-loop-axis.result c.along-left-in-loop-axis.result
    (omega (arith, c.loop-axis-test.true, c.args.layout.now.sound.most)) c.requires.of_rates c.along-right-in-loop-axis.ensures c.along-left-in-loop-axis.ensures))
    (can_go_on c.args.layout.now c.args.rates.now c.args.closed.now c.args.cells.now c.pass_along.new.into c.loop-axis.into c.loop-axis.axis c.loop-axis-test.true c.requires.passes c.loop-axis.invariant)

pub loop-axis-preserved : goal.loop-axis-preserved
loop-axis-preserved c =
    one_more_axis c.args.layout.now c.args.rates.now c.args.closed.now c.args.cells.now c.pass_along.new.into c.loop-axis.into c.pass_along-in-loop-axis.new.into c.loop-axis.axis
    c.args.layout.now.sound c.loop-axis-test.true c.requires.passes c.loop-axis.invariant
    (subst (λ (x : AxisPass). HasLayers (after_axis x) c.args.layout.now c.loop-axis.axis 0 (cells_along c.args.layout.now c.loop-axis.axis) c.loop-axis.into c.pass_along-in-loop-axis.new.into)
    (pass_is c.args.layout.now c.args.rates.now c.args.multipliers.now c.args.closed.now c.args.cells.now (λ written _. written) c.loop-axis.axis c.along-right-in-loop-axis.result c.along-left-in-loop-axis.result
    (omega (arith, c.loop-axis-test.true, c.args.layout.now.sound.most)) c.requires.of_rates c.along-right-in-loop-axis.ensures c.along-left-in-loop-axis.ensures)
    c.pass_along-in-loop-axis.ensures)

pub returns-clause-staged : goal.returns-clause-staged
returns-clause-staged c =
    all_staged c.args.layout.now c.args.rates.now c.args.closed.now c.args.cells.now c.pass_along.new.into c.loop-axis.into c.loop-axis.axis (omega (arith, c.args.layout.now.sound.least)) c.loop-axis.invariant

pub returns-clause-ghosts : goal.returns-clause-ghosts
returns-clause-ghosts c = λ n off. c.loop-axis.invariant.ghosts n off ∙ c.pass_along.ensures.ghosts n off
