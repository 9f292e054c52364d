use Rattle.std.proofs.Common.{◌≡◌, ◌<◌, ◌≤◌, ℕ, length, slice_index_or}
use Rattle.react_kernel.specs.BlockSteps.{with_total}
use Rattle.react_kernel.proofs.Buffers.{no_buf}
use Rattle.react_kernel.proofs.cell.scatter.Given as goal

abbrev pub invariant-loop-buf : goal.invariant-loop-buf
invariant-loop-buf l = record {
  count : length l.bufs ≡ length l.initial.bufs;
  done : (k : ℕ) → k < l.buf-index → slice_index_or l.bufs k no_buf ≡ with_total l.place l.cell (slice_index_or l.initial.bufs k no_buf);
  rest : (k : ℕ) → l.buf-index ≤ k → slice_index_or l.bufs k no_buf ≡ slice_index_or l.initial.bufs k no_buf;
}
