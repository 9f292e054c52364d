use Rattle.std.proofs.Common.{ℕ, ◌<◌, ◌≤◌, get_or}
use Rattle.kernel_bench.proofs.block.are_small.Given as goal

abbrev pub invariant-loop-total : goal.invariant-loop-total
invariant-loop-total l = (k : ℕ) → k < l.total-index → get_or l.totals k 0 ≤ l.bits
