-- Buffers that were all changed.
use Rattle.std.proofs.Common.{◌≡◌, ◌∙◌, sym, ℕ, ◌<◌, ◌≤◌, List, length, map, slice_index_or, arith}
use Rattle.std.proofs.lemmas.List.{ext_get_or, get_or-map, length-map}
use Rattle.field_bufs.specs.declared.buf.FieldBuf.{FieldBuf}
use Rattle.react_kernel.proofs.Buffers.{no_buf}

pub all_scattered : (w : FieldBuf → FieldBuf) (old now : List FieldBuf) (i : ℕ) → length now ≡ length old
    → ((k : ℕ) → k < i → slice_index_or now k no_buf ≡ w (slice_index_or old k no_buf)) → length now ≤ i → now ≡ map w old
all_scattered w old now i many done all =
    ext_get_or no_buf now (map w old) (many ∙ sym (length-map old w)) (λ k h. done k (omega arith) ∙ sym (get_or-map w old k no_buf no_buf (omega arith)))
