use Rattle.std.proofs.Common.{◌≡◌, ◌≤◌, replicate, vec_capacity}
use Rattle.cycle_tables.specs.Inside.{empty_box}
use Rattle.cycle_tables.proofs.mailbox.Mailboxes.new.Given as goal

abbrev pub invariant-loop : goal.invariant-loop
invariant-loop g l = record { made : l.by_round.items ≡ replicate l.counter empty_box; room : l.rounds ≤ vec_capacity l.by_round }
