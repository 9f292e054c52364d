use Rattle.cycle_kernel_laws.proofs.Kernels.{are_kernels}
use Rattle.cycle_kernel_laws.proofs.laws.kernels_law.Goals as goal

pub returns : goal.returns
returns c = are_kernels
