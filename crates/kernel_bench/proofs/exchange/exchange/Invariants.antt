use Rattle.std.proofs.Common.{◌≡◌, length}
use Rattle.kernel_bench.proofs.exchange.exchange.Given as goal

abbrev pub invariant-loop-number : goal.invariant-loop-number
invariant-loop-number l = length l.blocks ≡ length l.fn.blocks
