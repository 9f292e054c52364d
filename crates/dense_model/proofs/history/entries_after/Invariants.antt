use Rattle.std.proofs.Common.{◌≡◌}
use Rattle.problem_set.specs.SettingsOf.{settings_of}
use Rattle.mesh_rules.specs.Sums.{table}
use Rattle.mesh_texts.specs.History.{entry_of}
use Rattle.dense_model.specs.Stands.{reached_in}
use Rattle.dense_model.proofs.history.entries_after.Given as goal

abbrev pub invariant-loop-field : goal.invariant-loop-field
invariant-loop-field l = l.entries.items ≡ table l.field (entry_of (reached_in (settings_of l.fn.problem) l.fn.tree l.fn.state l.fn.flows l.fn.drops))
