use Rattle.std.proofs.Common.{◌≡◌, length}
use Rattle.kernel_bench.proofs.exchange.fill_block.Given as goal

abbrev pub invariant-loop-axis : goal.invariant-loop-axis
invariant-loop-axis l = length l.blocks ≡ length l.fn.blocks
