-- Why a run stops.
use Rattle.mesh_outside.specs.declared.fault.OutFault.{OutFault}
use Rattle.mesh_outside.specs.declared.fault.OutFault.TheVariants.{Failed, NoMemory}
use Rattle.dense_model.specs.declared.fault.DenseFault.{DenseFault}
use Rattle.dense_model.specs.declared.fault.DenseFault.TheVariants as dense
use Rattle.mesh_driver.specs.declared.fault.DriveFault.{DriveFault}
use Rattle.mesh_driver.specs.declared.fault.DriveFault.TheVariants as stop

-- a failed write stops a run, and so does want of memory
abbrev pub fault_of : OutFault → DriveFault
fault_of Failed = stop.WriteFault
fault_of NoMemory = stop.NoMemory

-- so does a tree with too many leaves
abbrev pub fault_of_run : DenseFault → DriveFault
fault_of_run dense.NoMemory = stop.NoMemory
fault_of_run dense.TooManyAtStart = stop.TooManyAtStart
fault_of_run (dense.TooManyBlocks cycle leaves) = stop.TooManyBlocks cycle leaves
