use Rattle.react_kernel.proofs.Flows.{Applied}
use Rattle.react_kernel.proofs.kernel.ReactKernelCellKernel.apply.Given as goal

abbrev pub invariant-loop-reaction : goal.invariant-loop-reaction
invariant-loop-reaction l = Applied l.reactions l.fn.cell l.fn.flows l.reaction-index l.cell l.flows
