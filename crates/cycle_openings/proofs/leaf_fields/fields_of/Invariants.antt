use Rattle.cycle_openings.specs.LeafFields.{AreOnLeaves}
use Rattle.cycle_openings.proofs.leaf_fields.fields_of.Given as goal

abbrev pub invariant-loop-leaf : goal.invariant-loop-leaf
invariant-loop-leaf l = AreOnLeaves l.mesh l.leaf l.copies.items
