use Rattle.std.proofs.Common.{◌≡◌, ◌-◌, ◌≤◌, ◌++◌}
use Rattle.problem_set.specs.SettingsOf.{settings_of}
use Rattle.mesh_rules.specs.Files.{lines_until}
use Rattle.mesh_rules.specs.Reaction.{kernel_of}
use Rattle.mesh_rules.specs.Texts.{history_heading}
use Rattle.dense_model.specs.RunFiles.{IsRunning, run_of}
use Rattle.dense_model.proofs.FileLists.{dumps_to}
use Rattle.dense_model.proofs.files.files_until.Given as goal

abbrev pub decreases-cycles : goal.decreases-cycles
decreases-cycles l = l.cycle - l.run.cycle

abbrev pub invariant-cycles : goal.invariant-cycles
invariant-cycles l = record {
  same : l.run.problem ≡ settings_of l.problem;
  within : l.run.cycle ≤ l.cycle;
  running : IsRunning (run_of (settings_of l.problem) l.run.cycle);
  files : l.files ≡ dumps_to (settings_of l.problem) l.prefix l.run.cycle;
  lines : l.history.items ≡ history_heading (settings_of l.problem) ++ lines_until (settings_of l.problem) (kernel_of (settings_of l.problem)) l.run.cycle;
}
