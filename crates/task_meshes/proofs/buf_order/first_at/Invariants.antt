use Rattle.std.proofs.Common.{◌-◌}
use Rattle.task_meshes.proofs.Ordered.{Halving}
use Rattle.task_meshes.proofs.buf_order.first_at.Given as goal

abbrev pub invariant-halve : goal.invariant-halve
invariant-halve l = Halving l.bufs l.block l.field l.low l.high

abbrev pub decreases-halve : goal.decreases-halve
decreases-halve l = l.high - l.low
