-- The numbers that the program ends with.
use Rattle.std.specs.Prelude.{ℕ}
use Rattle.mesh_outcome.specs.declared.status.Status.{Status}
use Rattle.mesh_outcome.specs.declared.status.Status.TheVariants.{Done, Usage, Refused, ReadFault, WriteFault, NoMemory}
use Rattle.mesh_outcome.specs.declared.status.Status.TheVariants.{TooManyBlocks, PrintFault}

-- one number for each status
abbrev pub code_of : Status → ℕ
code_of Done = 0
code_of Usage = 1
code_of Refused = 2
code_of ReadFault = 3
code_of WriteFault = 4
code_of NoMemory = 5
code_of TooManyBlocks = 6
code_of PrintFault = 7
