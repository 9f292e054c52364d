use Rattle.std.proofs.Common.{◌≡◌, ◌*◌, length, All}
use Rattle.problem_set.specs.SettingsOf.{settings_of}
use Rattle.lent_bufs.specs.Meshes.{mesh_in}
use Rattle.lent_bufs.proofs.Each.{AreDoneTo}
use Rattle.stage_tasks.specs.Fluxes.{with_fluxes}
use Rattle.stage_tasks.specs.Portions.{IsMade}
use Rattle.stage_tasks.proofs.fluxes.compute_fluxes.Given as goal

abbrev pub invariant-loop-buf : goal.invariant-loop-buf
invariant-loop-buf l = record {
  done : AreDoneTo (with_fluxes (mesh_in l.problem l.tree l.layout)) l.buf-index l.initial.bufs l.bufs;
  numbers : length l.numbers.items ≡ length l.problem.moves * l.problem.levels;
  made : All (IsMade (settings_of l.problem)) l.made.items;
}
