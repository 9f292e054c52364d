use Rattle.cycle_kernel_links.proofs.Cells.{gains_are_those, reactions_are_those, wishes_are_those}
use Rattle.cycle_kernel_links.proofs.laws.cell_laws.Goals as goal

pub returns-clause-reacted : goal.returns-clause-reacted
returns-clause-reacted c = reactions_are_those

pub returns-clause-gained : goal.returns-clause-gained
returns-clause-gained c = gains_are_those

pub returns-clause-wishes : goal.returns-clause-wishes
returns-clause-wishes c = wishes_are_those
