-- The status of an outcome is never that of printing.
use Rattle.std.proofs.Common.{◌≡◌}
use Rattle.mesh_outcome.specs.declared.outcome.Outcome.{Outcome}
use Rattle.mesh_outcome.specs.declared.outcome.Outcome.TheVariants.{Done, Listed, Usage, Refused, ReadFault, WriteFault, NoMemory, TooManyAtStart, TooManyBlocks}
use Rattle.mesh_outcome.specs.declared.status.Status.TheVariants as status
use Rattle.mesh_outcome.specs.Outcome.{status_of}

-- an outcome's own status is not that of printing
pub own_status : (o : Outcome) → status_of o ≡ status.PrintFault → ⊥
own_status (Done cycles blocks total) is = cc
own_status (Listed deck) is = cc
own_status (Usage fault) is = cc
own_status (Refused refusal) is = cc
own_status ReadFault is = cc
own_status WriteFault is = cc
own_status NoMemory is = cc
own_status TooManyAtStart is = cc
own_status (TooManyBlocks cycle leaves) is = cc
