use Rattle.std.proofs.Common.{◌≡◌, [], replicate}
use Rattle.alloc_epochs.proofs.row.Row.new.Given as goal

abbrev pub invariant-loop : goal.invariant-loop
invariant-loop l = l.made.items ≡ replicate l.counter []
