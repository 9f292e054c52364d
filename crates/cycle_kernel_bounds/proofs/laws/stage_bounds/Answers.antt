use Rattle.cycle_kernel_bounds.proofs.Stages.{sums_may_be_gathered, updates_may_pass}
use Rattle.cycle_kernel_bounds.proofs.laws.stage_bounds.Goals as goal

pub returns-clause-sums : goal.returns-clause-sums
returns-clause-sums c = sums_may_be_gathered

pub returns-clause-updates : goal.returns-clause-updates
returns-clause-updates c = updates_may_pass
