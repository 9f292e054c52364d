use Rattle.std.proofs.Common.{ap}
use Rattle.problem_set.specs.declared.problem.Problem.{Problem}
use Rattle.problem_set.specs.SettingsOf.{settings_of}
use Rattle.mesh_input.specs.Input.{or_problem_fault}
use Rattle.mesh_input.proofs.StepLemmas.{problem_stops}
use Rattle.mesh_input.proofs.input.problem_of.Goals as goal

pub returns-in-Ok : goal.returns-in-Ok
returns-in-Ok c = ap or_problem_fault c.in-Ok.ensures

pub returns-in-Err : goal.returns-in-Err
returns-in-Err c = problem_stops {T = Problem} settings_of _ c.in-Err.fault _ c.stop_of_problem.ensures c.in-Err.ensures
