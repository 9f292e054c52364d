use Rattle.cycle_kernel_laws.proofs.Kernels.{are_of_cycles}
use Rattle.cycle_kernel_laws.proofs.laws.problem_law.Goals as goal

pub returns : goal.returns
returns c = are_of_cycles
