use Rattle.problem_set.specs.SettingsOf.{settings_of}
use Rattle.remesh.specs.Openings.{IsOpenedTo, boxes_of_field}
use Rattle.remesh.proofs.opening.open_field.Given as goal

abbrev pub invariant-loop-block : goal.invariant-loop-block
invariant-loop-block l = IsOpenedTo (settings_of l.problem) l.layout l.field (boxes_of_field l.problem.boxes l.field) l.fn.mesh l.mesh l.block
