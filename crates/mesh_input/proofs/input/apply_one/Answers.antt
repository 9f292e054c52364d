use Rattle.std.proofs.Common.{ap}
use Rattle.mesh_input.specs.Input.{or_override_fault}
use Rattle.mesh_input.proofs.StepLemmas.{override_stops}
use Rattle.mesh_input.proofs.input.apply_one.Goals as goal

pub returns-in-Ok : goal.returns-in-Ok
returns-in-Ok c = ap (or_override_fault c.args.number) c.in-Ok.ensures.answer

pub returns-in-Err : goal.returns-in-Err
returns-in-Err c = override_stops {T = Unit {0}} (λ _. c.apply.new.self) c.args.number _ c.in-Err.fault _ c.stop_of_override.ensures c.in-Err.ensures.answer
