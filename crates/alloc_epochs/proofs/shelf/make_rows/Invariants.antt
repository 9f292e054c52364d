use Rattle.std.proofs.Common.{◌≡◌, [], replicate}
use Rattle.alloc_epochs.proofs.shelf.make_rows.Given as goal

abbrev pub invariant-loop : goal.invariant-loop
invariant-loop l = l.made.items ≡ replicate l.counter (replicate l.pages [])
