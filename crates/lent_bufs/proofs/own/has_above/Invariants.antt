use Rattle.std.proofs.Common.{◌*◌, ◌<◌, ◌≤◌, ℕ, slice_index}
use Rattle.cycle_kernels.specs.Lists.{own_totals}
use Rattle.lent_bufs.proofs.own.has_above.Given as goal

abbrev pub invariant-loop-row : goal.invariant-loop-row
invariant-loop-row l = (k : ℕ) → k < l.row * slice_index l.layout.cells 0 → slice_index (own_totals l.layout l.cells) k ≤ l.threshold
