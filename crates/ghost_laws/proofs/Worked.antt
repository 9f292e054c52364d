-- The worked indices, computed.
use Rattle.std.proofs.Common.{refl}
use Rattle.ghost_laws.specs.Refined.{WorkedIndices}

pub worked_indices : WorkedIndices
worked_indices = record { finer = λ m d c. rw d (rw c refl); coarser = λ m d c. rw d (rw c refl) }
