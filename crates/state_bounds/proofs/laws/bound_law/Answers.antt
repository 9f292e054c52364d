use Rattle.state_bounds.proofs.Bounds.{cells_are_small, stages_may_go_on}
use Rattle.state_bounds.proofs.laws.bound_law.Goals as goal

pub returns-clause-stages : goal.returns-clause-stages
returns-clause-stages c = stages_may_go_on

pub returns-clause-cells : goal.returns-clause-cells
returns-clause-cells c = cells_are_small
