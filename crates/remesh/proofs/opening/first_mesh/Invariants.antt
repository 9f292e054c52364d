use Rattle.problem_set.specs.SettingsOf.{settings_of}
use Rattle.remesh.specs.Openings.{AreFieldsOpened}
use Rattle.remesh.proofs.opening.first_mesh.Given as goal

abbrev pub invariant-loop-field : goal.invariant-loop-field
invariant-loop-field l = AreFieldsOpened (settings_of l.problem) l.layout l.problem.boxes l.initial.mesh l.mesh l.field
