use Rattle.std.proofs.Common.{◌∙◌}
use Rattle.strided_rows.proofs.Steps.{one_more_plane}
use Rattle.strided_rows.proofs.planes.write_planes.Goals as goal

pub loop-plane-preserved : goal.loop-plane-preserved
loop-plane-preserved g c =
    c.write_rows.ensures
    ∙ one_more_plane (g.R.RowMap.gives c.args.op.now) c.args.len c.args.count c.args.from.now c.args.from_planes c.args.into_planes c.loop-plane.plane c.loop-plane.into c.args.into.now c.loop-plane.invariant
