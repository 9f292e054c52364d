-- What a kernel makes of the cells of a block.
use Rattle.std.specs.Prelude.{◌≡◌, ◌≢◌, ℕ, ◌+◌, ◌<◌, ◌≤◌, Bool, false, List, [], ◌∷◌, ◌++◌, length, map, nat_eq, replicate, slice_index, slice_index_or, All}
use Rattle.std.specs.List.{list_any}
use Rattle.package_fields.specs.declared.flow.Flow.{Flow}
use Rattle.package_fields.specs.Flow.{no_flow}
use Rattle.package_fields.specs.Kernel.{Reacted, with_parts}
use Rattle.block_layout.specs.declared.layout.Layout.{Layout}
use Rattle.block_layout.specs.Faces.{face_count}
use Rattle.block_layout.specs.Layouts.{interior_len, len}
use Rattle.block_layout.specs.Regions.{cell_place, interior}
use Rattle.field_bufs.specs.declared.buf.FieldBuf.{FieldBuf}
use Rattle.field_bufs.specs.Buffers.{HasSizes, total_at}
use Rattle.mesh_rules.specs.Sums.{sum_to, table}

-- the fields of some buffers rise, from one on
abbrev pub Rise : ℕ → List FieldBuf → Type 0
Rise least [] = least ≡ least
Rise least (buf ∷ bufs) = (least ≤ buf.field) × Rise (buf.field + 1) bufs

-- a buffer of a block with so many fields
pub record IsOf (l : Layout) (block fields : ℕ) (buf : FieldBuf) : Type 0 where
  pub of_block : buf.block ≡ block
  pub in_range : buf.field < fields
  pub sizes : HasSizes l buf

-- buffers of one block, by rising field
pub record AreOf (l : Layout) (block fields : ℕ) (bufs : List FieldBuf) : Type 0 where
  pub each : All (IsOf l block fields) bufs
  pub rise : Rise 0 bufs

-- whether a field has a buffer
abbrev pub has_field : List FieldBuf → ℕ → Bool
has_field bufs f = list_any (λ buf. nat_eq buf.field f) bufs

-- the totals of a cell by field, with zeros for the fields that have no buffer
abbrev pub totals_at : List FieldBuf → ℕ → ℕ → List ℕ
totals_at bufs fields place = table fields (λ f. total_at bufs f place)

-- where the interior cell of a number lies among the cells of a block with its ghosts
abbrev pub inner_place : Layout → ℕ → ℕ
inner_place l k = cell_place l (interior l) k

-- what a kernel makes of the interior cell of a number
abbrev pub reacted_at : (List ℕ → Reacted) → Layout → List FieldBuf → ℕ → ℕ → Reacted
reacted_at react l bufs fields k = react (totals_at bufs fields (inner_place l k))

-- a buffer without its cells
abbrev pub without_cells : FieldBuf → FieldBuf
without_cells buf = record buf { cells = [] }

-- the buffer of a field that had none, and of which the kernel makes something in some interior cell: nothing passes its faces
pub record IsNew (react : List ℕ → Reacted) (l : Layout) (block stamp fields : ℕ) (old : List FieldBuf) (buf : FieldBuf) : Type 0 where
  pub of_block : buf.block ≡ block
  pub stamped : buf.stamp ≡ stamp
  pub in_range : buf.field < fields
  pub was_absent : has_field old buf.field ≡ false
  pub some_cell : ℕ
  pub cell_within : some_cell < interior_len l
  pub not_zero : 0 < slice_index (reacted_at react l old fields some_cell).totals buf.field
  pub as_many : length buf.cells ≡ len l
  pub right : buf.right ≡ replicate (face_count l) 0
  pub left : buf.left ≡ replicate (face_count l) 0

-- each flow has gained what was made and used of its field in so many interior cells
pub record HasGained (react : List ℕ → Reacted) (l : Layout) (bufs : List FieldBuf) (n : ℕ) (old new : List Flow) : Type 0 where
  pub as_many : length new ≡ length old
  pub each : (f : ℕ) → f < length old → slice_index_or new f no_flow ≡ with_parts (slice_index_or old f no_flow)
      (sum_to n (λ k. slice_index (reacted_at react l bufs (length old) k).made f))
      (sum_to n (λ k. slice_index (reacted_at react l bufs (length old) k).used f))

-- a block after a kernel: its buffers and the new ones, by rising field, have in each interior cell what the kernel makes of it
-- and in each ghost what was there; all else of the old buffers is as it was
pub record HasReacted (react : List ℕ → Reacted) (l : Layout) (block stamp fields : ℕ) (old now made : List FieldBuf) : Type 0 where
  pub same : map without_cells now ≡ map without_cells old
  pub sizes : All (HasSizes l) now
  pub rise : Rise 0 made
  pub new : All (IsNew react l block stamp fields old) made
  pub interior : (k f : ℕ) → k < interior_len l → f < fields → total_at (now ++ made) f (inner_place l k) ≡ slice_index (reacted_at react l old fields k).totals f
  pub ghosts : (f place : ℕ) → f < fields → ((k : ℕ) → k < interior_len l → place ≢ inner_place l k) → total_at (now ++ made) f place ≡ total_at old f place
