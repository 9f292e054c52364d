use Rattle.std.proofs.Common.{◌≡◌, ◌+◌, ◌-◌, ◌≤◌, ◌++◌}
use Rattle.std.specs.Option.{ForSome}
use Rattle.problem_set.specs.SettingsOf.{settings_of}
use Rattle.dense_model.specs.RunFiles.{IsRunning, run_of}
use Rattle.mesh_rules.specs.Files.{lines_until}
use Rattle.mesh_rules.specs.Reaction.{kernel_of}
use Rattle.mesh_rules.specs.Texts.{history_heading}
use Rattle.mesh_outside.specs.Depot.{AfterWrites}
use Rattle.mesh_outside.specs.Gained.{IsClosed, Gains}
use Rattle.mesh_driver.proofs.Cycles.{files_before}
use Rattle.mesh_driver.proofs.run.drive.Given as goal

abbrev pub decreases-cycles : goal.decreases-cycles
decreases-cycles g l = l.run.problem.nlim - l.run.cycle

abbrev pub invariant-cycles : goal.invariant-cycles
invariant-cycles g l = record {
  same : l.run.problem ≡ settings_of l.problem;
  within : l.run.cycle ≤ l.run.problem.nlim;
  running : IsRunning (run_of (settings_of l.problem) l.run.cycle);
  gained : Gains (g.D.Depot.seen l.fn.depot).written (g.D.Depot.seen l.depot).written (files_before (settings_of l.problem) l.prefix (l.run.cycle + 1));
  closed : ForSome (g.D.Depot.seen l.depot).written IsClosed;
  lines : l.history.items ≡ history_heading (settings_of l.problem) ++ lines_until (settings_of l.problem) (kernel_of (settings_of l.problem)) l.run.cycle;
  after : AfterWrites ⊥ (g.D.Depot.seen l.fn.depot) (g.D.Depot.seen l.depot);
}
