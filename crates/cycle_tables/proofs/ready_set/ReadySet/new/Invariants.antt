use Rattle.std.proofs.Common.{◌≡◌, ◌≤◌, replicate, vec_capacity}
use Rattle.cycle_tables.proofs.Sets.{no_number}
use Rattle.cycle_tables.proofs.ready_set.ReadySet.new.Given as goal

abbrev pub invariant-loop : goal.invariant-loop
invariant-loop l = record { made : l.places.items ≡ replicate l.counter no_number; room : l.bound ≤ vec_capacity l.places }
