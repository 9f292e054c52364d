use Rattle.std.proofs.Common.{◌-◌}
use Rattle.remesh.specs.Fields.{AreBelow}
use Rattle.remesh.specs.Leaves.{plain}
use Rattle.remesh.proofs.fields.coming_fields.Given as goal

abbrev pub invariant-loop-field : goal.invariant-loop-field
invariant-loop-field l = AreBelow (plain l.leaf) l.from l.bufs

abbrev pub decreases-loop-field : goal.decreases-loop-field
decreases-loop-field l = l.leaf.old.now.fields - l.from
