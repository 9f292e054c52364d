use Rattle.std.proofs.Common.{◌≡◌}
use Rattle.strided_rows.specs.Written.{planes_written}
use Rattle.strided_rows.proofs.planes.write_planes.Given as goal

abbrev pub invariant-loop-plane : goal.invariant-loop-plane
invariant-loop-plane g l = l.into ≡ planes_written (g.R.RowMap.gives l.op) l.len l.count l.from l.from_planes l.into_planes l.plane l.initial.into
