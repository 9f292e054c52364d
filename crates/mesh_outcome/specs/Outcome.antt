-- The status of each outcome.
use Rattle.mesh_outcome.specs.declared.outcome.Outcome.{Outcome}
use Rattle.mesh_outcome.specs.declared.outcome.Outcome.TheVariants as outcome
use Rattle.mesh_outcome.specs.declared.status.Status.{Status}
use Rattle.mesh_outcome.specs.declared.status.Status.TheVariants.{Done, Usage, Refused, ReadFault, WriteFault, NoMemory, TooManyBlocks}

-- the status that a call ends with, where its line is printed
abbrev pub status_of : Outcome → Status
status_of (outcome.Done cycles blocks total) = Done
status_of (outcome.Listed deck) = Done
status_of (outcome.Usage fault) = Usage
status_of (outcome.Refused refusal) = Refused
status_of outcome.ReadFault = ReadFault
status_of outcome.WriteFault = WriteFault
status_of outcome.NoMemory = NoMemory
status_of outcome.TooManyAtStart = TooManyBlocks
status_of (outcome.TooManyBlocks cycle leaves) = TooManyBlocks
