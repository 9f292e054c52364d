use Rattle.std.proofs.Common.{◌≡◌, ◌++◌, map, take}
use Rattle.sent_letters.specs.Sent.{letter_from}
use Rattle.sent_letters.proofs.sending.send_finer.Given as goal

abbrev pub invariant-loop-k : goal.invariant-loop-k
invariant-loop-k l = l.sent ≡ l.fn.sent ++ map (letter_from l.from l.side) (take l.k l.tos)
