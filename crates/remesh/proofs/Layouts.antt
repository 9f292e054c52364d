-- Two layouts of the same blocks.
use Rattle.std.proofs.Common.{◌≡◌, ℕ, Option, Some, None, ◌+◌, ◌*◌, cond, nat_lt, List, [], ◌∷◌, length, replicate, slice_index, ap, sym, ◌∙◌}
use Rattle.block_layout.specs.declared.layout.Layout.{Layout}
use Rattle.block_layout.specs.Faces.{face_count}
use Rattle.block_layout.specs.Indices.{added, count_of, index_of, number_of, with_along}
use Rattle.block_layout.specs.Layouts.{len}
use Rattle.mesh_rules.specs.Sums.{table}
use Rattle.field_bufs.specs.declared.buf.FieldBuf.{FieldBuf}
use Rattle.field_bufs.specs.Buffers.{HasSizes}
use Rattle.alloc_epochs.specs.Shelf.{place_on}
use Rattle.dense_mesh.proofs.Tables.{table_same}
use Rattle.cell_block.specs.State.{Stored, buffer_at, leaf_count}
use Rattle.cell_block.specs.Rules.{interior_at, interior_in, interior_of, mesh_in, state_in}

by_both : {X : Type 0} (f : ℕ → List ℕ → X) (a b : Layout) → a.dims ≡ b.dims → a.cells ≡ b.cells → f a.dims a.cells ≡ f b.dims b.cells
by_both f a b p q = ap (λ d. f d a.cells) p ∙ ap (f b.dims) q

layers : ℕ → ℕ → ℕ
layers dims axis = cond (nat_lt axis dims) 2 0

along : ℕ → List ℕ → ℕ → ℕ
along dims n axis = slice_index n axis + 2 * layers dims axis

all_along : ℕ → List ℕ → List ℕ
all_along dims n = along dims n 0 ∷ along dims n 1 ∷ along dims n 2 ∷ []

pub same_len : (a b : Layout) → a.dims ≡ b.dims → a.cells ≡ b.cells → len a ≡ len b
unfolding layers along all_along
same_len a b p q = by_both (λ d n. count_of (all_along d n)) a b p q

faces : ℕ → List ℕ → ℕ → ℕ
faces dims n axis = cond (nat_lt axis dims) (count_of (with_along axis (slice_index n axis + 1) n)) 0

pub same_faces : (a b : Layout) → a.dims ≡ b.dims → a.cells ≡ b.cells → face_count a ≡ face_count b
unfolding faces
same_faces a b p q = by_both (λ d n. faces d n 0 + faces d n 1 + faces d n 2) a b p q

pub same_interior : (a b : Layout) (cells : List ℕ) → a.dims ≡ b.dims → a.cells ≡ b.cells → interior_of a cells ≡ interior_of b cells
unfolding layers along all_along
same_interior a b cells p q =
    by_both (λ d n. table (count_of n) (λ k. slice_index cells (number_of (all_along d n) (added (layers d 0 ∷ layers d 1 ∷ layers d 2 ∷ []) (index_of n k))))) a b p q

pub same_sizes : (a b : Layout) (buf : FieldBuf) → a.dims ≡ b.dims → a.cells ≡ b.cells → HasSizes a buf → HasSizes b buf
same_sizes a b buf p q sizes = record {
  cells = sizes.cells ∙ same_len a b p q;
  right = sizes.right ∙ same_faces a b p q;
  left = sizes.left ∙ same_faces a b p q;
}

-- what a mesh state stands for
pub same_state : (a b : Layout) (s : Stored) → a.dims ≡ b.dims → a.cells ≡ b.cells → state_in a s ≡ state_in b s
same_state a b s p q =
    ap (λ (v : List (List (List ℕ))). record (state_in a s) { mesh = record (mesh_in a s) { totals = v } })
    (table_same (leaf_count s) (λ leaf. table s.fields (λ f. interior_at a s (place_on leaf f))) (λ leaf. table s.fields (λ f. interior_at b s (place_on leaf f))) []
    (λ leaf small. table_same s.fields (λ f. interior_at a s (place_on leaf f)) (λ f. interior_at b s (place_on leaf f)) [] (λ f some. by (buffer_at s (place_on leaf f)))))
  where
    by : (o : Option FieldBuf) → interior_in a o ≡ interior_in b o
    by None = ap (λ n. replicate (count_of n) 0) q
    by (Some buf) = same_interior a b buf.cells p q
