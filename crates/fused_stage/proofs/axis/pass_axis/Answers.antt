use Rattle.block_layout.specs.Layouts.{cells_along}
use Rattle.fused_stage.specs.Layers.{AxisPass, after_axis, axis_pass, end_open, first_open}
use Rattle.fused_stage.proofs.ClosedSides.{first_before_end, high_later, low_later, three_parts}
use Rattle.fused_stage.proofs.axis.pass_axis.Goals as goal

pub pass_low-requires-clause-passes : goal.pass_low-requires-clause-passes
pass_low-requires-clause-passes g c =
    let x : AxisPass = axis_pass c.args.layout.now c.args.axis c.args.closed.now c.args.cells.now (g.S.Start.begins c.args.start) (g.P.Portions.rate c.args.right) (g.P.Portions.denominator c.args.right) (g.Q.Portions.rate c.args.left) (g.Q.Portions.denominator c.args.left) in
    low_later x c.args.into.now c.pass_open.new.into c.args.layout.now.sound c.requires.axis c.pass_open.ensures c.requires.passes

pub pass_high-requires-clause-passes : goal.pass_high-requires-clause-passes
pass_high-requires-clause-passes g c =
    let x : AxisPass = axis_pass c.args.layout.now c.args.axis c.args.closed.now c.args.cells.now (g.S.Start.begins c.args.start) (g.P.Portions.rate c.args.right) (g.P.Portions.denominator c.args.right) (g.Q.Portions.rate c.args.left) (g.Q.Portions.denominator c.args.left) in
    high_later x c.args.into.now c.pass_open.new.into c.pass_low.new.into c.args.layout.now.sound c.requires.axis c.pass_open.ensures c.pass_low.ensures c.requires.passes

pub returns : goal.returns
returns g c =
    let x : AxisPass = axis_pass c.args.layout.now c.args.axis c.args.closed.now c.args.cells.now (g.S.Start.begins c.args.start) (g.P.Portions.rate c.args.right) (g.P.Portions.denominator c.args.right) (g.Q.Portions.rate c.args.left) (g.Q.Portions.denominator c.args.left) in
    let b = first_before_end c.args.layout.now c.args.axis c.args.closed.now c.args.layout.now.sound c.requires.axis in
    three_parts (after_axis x) c.args.layout.now c.args.axis (first_open c.args.closed.now c.args.axis) (end_open c.args.layout.now c.args.closed.now c.args.axis) (cells_along c.args.layout.now c.args.axis)
    c.args.into.now c.pass_open.new.into c.pass_low.new.into c.pass_high.new.into b.0 b.1 c.pass_open.ensures c.pass_low.ensures c.pass_high.ensures
