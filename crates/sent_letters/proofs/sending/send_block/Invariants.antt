use Rattle.std.proofs.Common.{◌≡◌, ◌++◌}
use Rattle.sent_letters.proofs.Due.{sent_along}
use Rattle.sent_letters.proofs.sending.send_block.Given as goal

abbrev pub invariant-loop-axis : goal.invariant-loop-axis
invariant-loop-axis l = l.sent ≡ l.fn.sent ++ sent_along l.from l.axis
