-- Buffers by block, then field.
use Rattle.std.specs.Prelude.{◌≡◌, ◌≢◌, ◌==◌, ℕ, ◌<◌, ◌≤◌, Bool, true, ◌&&◌, ◌||◌, nat_lt, List, [], filter, length}
use Rattle.std.specs.List.{slice_index_or}
use Rattle.field_bufs.specs.declared.buf.FieldBuf.{FieldBuf}

-- the buffer at a place of a list; past its end one of nothing
abbrev pub no_buf : FieldBuf
no_buf = record { block = 0; field = 0; stamp = 0; cells = []; right = []; left = [] }

abbrev pub buf_at : List FieldBuf → ℕ → FieldBuf
buf_at bufs k = slice_index_or bufs k no_buf

-- whether the place of a block and a field stands before that of another: by block, then field
abbrev pub is_before : ℕ → ℕ → ℕ → ℕ → Bool
is_before block field other_block other_field =
    nat_lt block other_block || (block == other_block && nat_lt field other_field)

-- buffers by block, then field, none twice
abbrev pub BufsRise : List FieldBuf → Type 0
BufsRise bufs = (i j : ℕ) → i < j → j < length bufs →
    is_before (buf_at bufs i).block (buf_at bufs i).field (buf_at bufs j).block (buf_at bufs j).field ≡ true

-- the buffers of a block
abbrev pub of_block : List FieldBuf → ℕ → List FieldBuf
of_block bufs block = filter (λ (buf : FieldBuf). buf.block == block) bufs

-- those between two places of a list are the ones of a block
pub record AreOfBlock (bufs : List FieldBuf) (block start end : ℕ) : Type 0 where
  pub ordered : start ≤ end
  pub within : end ≤ length bufs
  pub before : (k : ℕ) → k < start → (buf_at bufs k).block ≢ block
  pub here : (k : ℕ) → start ≤ k → k < end → (buf_at bufs k).block ≡ block
  pub after : (k : ℕ) → end ≤ k → k < length bufs → (buf_at bufs k).block ≢ block
