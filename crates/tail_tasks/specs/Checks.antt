-- Buffers at a check, each with its idle count.
use Rattle.std.specs.Prelude.{ℕ, ◌+◌, ◌==◌, Bool, cond, not, ◌&&◌, List, [], ◌∷◌, sum}
use Rattle.sparse_pool.specs.declared.place.Place.{Place}
use Rattle.field_bufs.specs.declared.buf.FieldBuf.{FieldBuf}
use Rattle.sparse_rounds.specs.Masked.{idle_next, is_freed}
use Rattle.cycle_kernels.specs.Blocks.{CycleMesh}
use Rattle.cycle_kernels.specs.Kernels.{kernels_of}
use Rattle.cycle_kernels.specs.Lists.{own_totals}
use Rattle.lent_bufs.specs.Buffers.{place_of}
use Rattle.lent_bufs.specs.Kept.{is_among}

-- whether a buffer is kept by the check
abbrev pub keeps_on : CycleMesh → List Place → FieldBuf → ℕ → Bool
keeps_on w kept buf count = is_among kept buf.block buf.field
    && not (is_freed (kernels_of w) (own_totals w.layout buf.cells) (is_among kept buf.block buf.field) count buf.field)

-- its next idle count
abbrev pub count_after : CycleMesh → List Place → FieldBuf → ℕ → ℕ
count_after w kept buf count =
    idle_next (kernels_of w) (own_totals w.layout buf.cells) (is_among kept buf.block buf.field) count buf.field

-- the next counts, the places that are freed, and what is dropped of a field, of buffers with their counts
abbrev pub counts_after : CycleMesh → List Place → List FieldBuf → List ℕ → List ℕ
counts_after w kept [] counts = []
counts_after w kept (buf ∷ bufs) [] = []
counts_after w kept (buf ∷ bufs) (count ∷ counts) = count_after w kept buf count ∷ counts_after w kept bufs counts

abbrev pub freed_of : CycleMesh → List Place → List FieldBuf → List ℕ → List Place
freed_of w kept [] counts = []
freed_of w kept (buf ∷ bufs) [] = []
freed_of w kept (buf ∷ bufs) (count ∷ counts) =
    cond (keeps_on w kept buf count) (freed_of w kept bufs counts) (place_of buf ∷ freed_of w kept bufs counts)

abbrev pub drop_of : CycleMesh → List Place → ℕ → List FieldBuf → List ℕ → ℕ
drop_of w kept f [] counts = 0
drop_of w kept f (buf ∷ bufs) [] = 0
drop_of w kept f (buf ∷ bufs) (count ∷ counts) =
    cond (f == buf.field) (cond (keeps_on w kept buf count) 0 (sum (own_totals w.layout buf.cells))) 0
    + drop_of w kept f bufs counts
