use Rattle.std.proofs.Common.{◌-◌}
use Rattle.cycle_openings.proofs.Copied.{AreFieldsBelow}
use Rattle.cycle_openings.proofs.leaf_fields.fields_on.Given as goal

abbrev pub invariant-loop-field : goal.invariant-loop-field
invariant-loop-field l = AreFieldsBelow l.mesh l.leaf l.from l.fields

abbrev pub decreases-loop-field : goal.decreases-loop-field
decreases-loop-field l = l.mesh.fields - l.from
