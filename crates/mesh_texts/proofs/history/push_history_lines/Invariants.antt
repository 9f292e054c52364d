use Rattle.std.proofs.Common.{◌≡◌, ◌++◌, take}
use Rattle.std.specs.List.{enumerate_from}
use Rattle.problem_set.specs.SettingsOf.{settings_of}
use Rattle.mesh_texts.specs.History.{numbered_entries}
use Rattle.mesh_texts.proofs.history.push_history_lines.Given as goal

abbrev pub invariant-loop-field : goal.invariant-loop-field
invariant-loop-field l = l.into.items ≡ l.initial.into.items ++ numbered_entries (settings_of l.problem) l.cycle (take l.field (enumerate_from 0 l.entries))
