use Rattle.std.proofs.Common.{◌≡◌, ◌++◌, take}
use Rattle.std.specs.List.{flat_map}
use Rattle.journal_texts.specs.Lines.{event_line}
use Rattle.journal_texts.proofs.journal.push_event_lines.Given as goal

abbrev pub invariant-loop-event : goal.invariant-loop-event
invariant-loop-event l = l.into.items ≡ l.initial.into.items ++ flat_map event_line (take l.event-index l.events)
