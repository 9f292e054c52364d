use Rattle.std.proofs.Common.{◌≡◌, drop}
use Rattle.row_machine.specs.Mail.{total_of}
use Rattle.row_machine.proofs.reading.part_of.Given as goal

abbrev pub invariant-loop-part : goal.invariant-loop-part
invariant-loop-part l = total_of l.round l.block l.high (drop l.part-index l.mail) ≡ total_of l.round l.block l.high l.mail
