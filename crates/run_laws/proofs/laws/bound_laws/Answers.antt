use Rattle.run_laws.proofs.CycleBounds.{grows_by_inflow, none_below_zero, none_passes}
use Rattle.run_laws.proofs.RunBounds.{runs_stay}
use Rattle.run_laws.proofs.laws.bound_laws.Goals as goal

pub returns-clause-paid : goal.returns-clause-paid
returns-clause-paid c = none_below_zero

pub returns-clause-grows : goal.returns-clause-grows
returns-clause-grows c = grows_by_inflow

pub returns-clause-bounded : goal.returns-clause-bounded
returns-clause-bounded c = none_passes

pub returns-clause-runs : goal.returns-clause-runs
returns-clause-runs c = runs_stay
