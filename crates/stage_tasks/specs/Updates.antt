-- Buffers after a stage.
use Rattle.std.specs.Prelude.{◌≡◌, ℕ, ◌+◌, ◌≤◌, ◌^◌, Bool, cond, List, sum}
use Rattle.sparse_pool.specs.declared.place.Place.{Place}
use Rattle.field_bufs.specs.declared.buf.FieldBuf.{FieldBuf}
use Rattle.cycle_kernels.specs.Blocks.{CycleMesh}
use Rattle.cycle_kernels.specs.Lists.{ghosts_in, own_totals, with_ghosts}
use Rattle.cycle_kernels.specs.Pairs.{inflow_of, outflow_of, updated_by}
use Rattle.lent_bufs.specs.Kept.{is_among}
use Rattle.lent_bufs.specs.Buffers.{pairs_in}
use Rattle.lent_bufs.specs.Cleared.{left_if}
use Rattle.stage_tasks.specs.declared.updates.Change.{Change}

-- a buffer's next totals
abbrev pub next_totals : CycleMesh → FieldBuf → List ℕ
next_totals w buf = updated_by w (own_totals w.layout buf.cells) (pairs_in buf)

-- a buffer with them, and the ghosts that it had
abbrev pub advanced : CycleMesh → FieldBuf → FieldBuf
advanced w buf = record buf { cells = with_ghosts w.layout (next_totals w buf) (ghosts_in w.layout buf.cells) }

-- a buffer after the update
abbrev pub updated_buf : CycleMesh → Bool → FieldBuf → FieldBuf
updated_buf w kept buf = record buf {
  stamp = buf.stamp + 1;
  cells = (left_if kept w.layout (advanced w buf)).cells;
}

-- what flows in and out of its block through faces of the domain
abbrev pub inflow_in : CycleMesh → FieldBuf → ℕ
inflow_in w buf = inflow_of w buf.block (pairs_in buf)

abbrev pub outflow_in : CycleMesh → FieldBuf → ℕ
outflow_in w buf = outflow_of w buf.block (pairs_in buf)

-- what is dropped of it: its next totals where it is not kept
abbrev pub dropped_if : CycleMesh → Bool → FieldBuf → ℕ
dropped_if w kept buf = cond kept 0 (sum (next_totals w buf))

abbrev pub dropped_of : CycleMesh → List Place → FieldBuf → ℕ
dropped_of w kept buf = dropped_if w (is_among kept buf.block buf.field) buf

-- what comes of one buffer
pub record IsChange (w : CycleMesh) (kept : Bool) (buf : FieldBuf) (change : Change) : Type 0 where
  pub inflow : change.inflow ≡ inflow_in w buf
  pub outflow : change.outflow ≡ outflow_in w buf
  pub dropped : change.dropped ≡ dropped_if w kept buf
  pub most_in : change.inflow ≤ 2 ^ 87
  pub most_out : change.outflow ≤ 2 ^ 87
  pub most_dropped : change.dropped ≤ 2 ^ 82
