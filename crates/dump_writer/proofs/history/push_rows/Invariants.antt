use Rattle.std.proofs.Common.{◌≡◌, ◌++◌, take}
use Rattle.problem_set.specs.SettingsOf.{settings_of}
use Rattle.dump_writer.specs.History.{rows_text}
use Rattle.dump_writer.proofs.history.push_rows.Given as goal

abbrev pub invariant-loop-row : goal.invariant-loop-row
invariant-loop-row l = l.into.items ≡ l.initial.into.items ++ rows_text (settings_of l.problem) (take l.row-index l.rows)
