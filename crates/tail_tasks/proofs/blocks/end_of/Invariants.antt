use Rattle.std.proofs.Common.{◌≡◌, ◌<◌, ◌≤◌, ℕ}
use Rattle.tail_tasks.specs.Blocks.{buf_at}
use Rattle.tail_tasks.proofs.blocks.end_of.Given as goal

abbrev pub invariant-loop-end : goal.invariant-loop-end
invariant-loop-end l = (k : ℕ) → l.start ≤ k → k < l.end → (buf_at l.bufs k).block ≡ l.block
