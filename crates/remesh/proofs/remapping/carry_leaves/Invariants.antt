use Rattle.remesh.specs.Carries.{AreCarriedTo}
use Rattle.remesh.proofs.remapping.carry_leaves.Given as goal

abbrev pub invariant-loop-number : goal.invariant-loop-number
invariant-loop-number l = AreCarriedTo l.layout l.old l.origins l.fn.mesh l.mesh l.number
