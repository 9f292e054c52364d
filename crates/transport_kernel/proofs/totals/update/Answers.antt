use Rattle.std.proofs.Common.{arith}
use Rattle.transport_kernel.specs.Update.{listed}
use Rattle.transport_kernel.proofs.Axes.{all_passed, can_pass_along, none_passed, one_more_axis}
use Rattle.transport_kernel.proofs.totals.update.Goals as goal

pub loop-axis-init : goal.loop-axis-init
loop-axis-init c = none_passed c.args.layout.now (listed c.args.layout.now c.args.right.now) (listed c.args.layout.now c.args.left.now) c.args.cells.now

pub update_along-requires-clause-passes : goal.update_along-requires-clause-passes
update_along-requires-clause-passes c =
    can_pass_along c.args.layout.now c.loop-axis.axis (listed c.args.layout.now c.args.right.now) (listed c.args.layout.now c.args.left.now) c.args.cells.now c.loop-axis.cells
    c.loop-axis-test.true c.requires.passes c.loop-axis.invariant

pub loop-axis-preserved : goal.loop-axis-preserved
loop-axis-preserved c =
    one_more_axis c.args.layout.now c.loop-axis.axis (listed c.args.layout.now c.args.right.now) (listed c.args.layout.now c.args.left.now) c.args.cells.now c.loop-axis.cells c.update_along.new.cells
    c.loop-axis-test.true c.requires.passes c.loop-axis.invariant c.update_along.ensures.along c.update_along.ensures.ghosts

pub returns-clause-passed : goal.returns-clause-passed
returns-clause-passed c =
    all_passed c.args.layout.now c.loop-axis.axis (listed c.args.layout.now c.args.right.now) (listed c.args.layout.now c.args.left.now) c.args.cells.now c.loop-axis.cells (omega arith) c.loop-axis.invariant

pub returns-clause-ghosts : goal.returns-clause-ghosts
returns-clause-ghosts c = c.loop-axis.invariant.ghosts
