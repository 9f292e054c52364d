-- From which states the cycles of a run start.
use Rattle.std.specs.Prelude.{◌≡◌, ℕ, ◌<◌, List}
use Rattle.package_fields.specs.Kernel.{KernelLaws, Reacted}
use Rattle.problem_set.specs.declared.problem.Problem.{Problem}
use Rattle.problem_set.specs.SettingsOf.{settings_of}
use Rattle.mesh_rules.specs.Fields.{field_count}
use Rattle.mesh_rules.specs.Run.{Reached, run, running}
use Rattle.mesh_rules.specs.Fit.{IsFit}

-- each state with which a cycle of a run starts is fit, remeshing included
abbrev pub RunsAreFit : Type 0
RunsAreFit = (p : Problem) (react : List ℕ → Reacted) (cycle : ℕ) (r : Reached) → KernelLaws (field_count (settings_of p)) react → cycle < p.nlim →
    run (settings_of p) react cycle ≡ running r → IsFit (settings_of p) r.state
