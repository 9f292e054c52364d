use Rattle.std.proofs.Common.{◌≡◌, ◌++◌, take}
use Rattle.journal_texts.specs.Lines.{places_text}
use Rattle.journal_texts.proofs.lines.push_places.Given as goal

abbrev pub invariant-loop-at : goal.invariant-loop-at
invariant-loop-at l = l.into.items ≡ l.initial.into.items ++ places_text (take l.at-index l.places)
