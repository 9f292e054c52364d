use Rattle.std.proofs.Common.{◌≡◌, ◌≤◌, replicate, vec_capacity}
use Rattle.cycle_tables.specs.Inside.{empty_box}
use Rattle.cycle_tables.proofs.posting.empty_mail.Given as goal

abbrev pub invariant-loop : goal.invariant-loop
invariant-loop g l = record { made : l.mail.items ≡ replicate l.counter (replicate l.rounds empty_box); room : l.lists ≤ vec_capacity l.mail }
