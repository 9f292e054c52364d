use Rattle.std.proofs.Common.{◌≡◌, replicate}
use Rattle.pack_cache.specs.Notes.{none_noted}
use Rattle.pack_cache.proofs.notes.PackNotes.new.Given as goal

abbrev pub invariant-loop : goal.invariant-loop
invariant-loop l = l.made.items ≡ replicate l.counter none_noted
