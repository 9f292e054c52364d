use Rattle.std.proofs.Common.{◌<◌}
use Rattle.dense_stage.proofs.LeavesDone.{axis_more, leaf_done}
use Rattle.dense_stage.proofs.PartSteps.{kept_twice, own_kept}
use Rattle.dense_stage.proofs.corrections.correct_leaf.Goals as goal

pub correct_side-requires : goal.correct_side-requires
correct_side-requires g c =
    let used : c.loop-axis.axis < c.args.layout.now.dims = c.loop-axis-test.true in
    let own = own_kept c.args.tree.now c.args.layout.now g.x c.args.faces.now c.loop-axis.faces c.requires.1.1.1 c.loop-axis.invariant.sides.kept in
    (c.requires.0, (c.requires.1.0, (used, (c.loop-axis.invariant.fit, own))))

pub correct_side-requires-in-loop-axis : goal.correct_side-requires-in-loop-axis
correct_side-requires-in-loop-axis g c =
    let used : c.loop-axis.axis < c.args.layout.now.dims = c.loop-axis-test.true in
    let first = c.in_ok-correct_side.ensures in
    let own = own_kept c.args.tree.now c.args.layout.now g.x c.args.faces.now c.correct_side.new.faces c.requires.1.1.1
    (kept_twice c.args.tree.now c.args.layout.now g.x c.args.faces.now c.loop-axis.faces c.correct_side.new.faces c.loop-axis.invariant.sides.kept first.kept) in
    (c.requires.0, (c.requires.1.0, (used, (first.faces, own))))

pub loop-axis-preserved : goal.loop-axis-preserved
loop-axis-preserved g c =
    let used : c.loop-axis.axis < c.args.layout.now.dims = c.loop-axis-test.true in
    let first = c.in_ok-correct_side.ensures in
    let second = c.in_ok-correct_side-2.ensures in
    record {
      fit = second.faces;
      sides = axis_more c.args.tree.now c.args.layout.now g.x c.args.leaf c.loop-axis.axis c.args.faces.now c.loop-axis.faces c.correct_side.new.faces c.correct_side-in-loop-axis.new.faces used c.loop-axis.invariant.sides first.kept first.done second.kept second.done;
    }

pub returns-clause-done : goal.returns-clause-done
returns-clause-done g c = leaf_done c.args.tree.now c.args.layout.now g.x c.args.leaf c.loop-axis.axis c.args.faces.now c.loop-axis.faces c.requires.0 c.requires.1.1.1 c.loop-axis-test.false c.loop-axis.invariant.sides
