use Rattle.run_laws.proofs.ZeroRuns.{runs_dense, runs_stop}
use Rattle.run_laws.proofs.ZeroThresholds.{zero_thresholds}
use Rattle.run_laws.proofs.laws.zero_threshold_laws.Goals as goal

pub returns-clause-cycles : goal.returns-clause-cycles
returns-clause-cycles c = zero_thresholds

pub returns-clause-runs : goal.returns-clause-runs
returns-clause-runs c = runs_dense

pub returns-clause-stops : goal.returns-clause-stops
returns-clause-stops c = runs_stop
