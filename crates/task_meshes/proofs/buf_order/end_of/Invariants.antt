use Rattle.std.proofs.Common.{◌≡◌, ℕ, ◌<◌, ◌≤◌}
use Rattle.task_meshes.specs.Orders.{buf_at}
use Rattle.task_meshes.proofs.buf_order.end_of.Given as goal

abbrev pub invariant-loop-end : goal.invariant-loop-end
invariant-loop-end l = (k : ℕ) → l.start ≤ k → k < l.end → (buf_at l.bufs k).block ≡ l.block
