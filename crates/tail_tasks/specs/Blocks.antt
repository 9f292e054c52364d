-- Buffers by block.
use Rattle.std.specs.Prelude.{ℕ, ◌<◌, ◌≤◌, List, [], length}
use Rattle.std.specs.List.{slice_index_or}
use Rattle.field_bufs.specs.declared.buf.FieldBuf.{FieldBuf}

-- the buffer at a place of a list; past its end one of nothing
abbrev pub buf_at : List FieldBuf → ℕ → FieldBuf
buf_at bufs k = slice_index_or bufs k (record { block = 0; field = 0; stamp = 0; cells = []; right = []; left = [] })

-- buffers by rising block, of the blocks from one on and below another
pub record AreByBlock (first end : ℕ) (bufs : List FieldBuf) : Type 0 where
  pub least : (k : ℕ) → k < length bufs → first ≤ (buf_at bufs k).block
  pub most : (k : ℕ) → k < length bufs → (buf_at bufs k).block < end
  pub rise : (i j : ℕ) → i < j → j < length bufs → (buf_at bufs i).block ≤ (buf_at bufs j).block
