-- A kernel in one cell of a block. This serves the private contracts of the crate.
use Rattle.std.specs.Prelude.{◌≡◌, ◌≢◌, ◌⊎◌, ℕ, suc, ◌+◌, ◌<◌, true, false, ◌||◌, cond, List, [], ◌∷◌, ◌++◌, length, map, nat_eq, nat_lt, replicate, slice_index, slice_set, All}
use Rattle.package_fields.specs.declared.flow.Flow.{Flow}
use Rattle.package_fields.specs.Kernel.{Reacted}
use Rattle.block_layout.specs.declared.layout.Layout.{Layout}
use Rattle.block_layout.specs.Faces.{face_count}
use Rattle.block_layout.specs.Layouts.{len}
use Rattle.field_bufs.specs.declared.buf.FieldBuf.{FieldBuf}
use Rattle.field_bufs.specs.Buffers.{total_at}
use Rattle.react_kernel.specs.Blocks.{AreOf, HasGained, Rise, has_field, inner_place, reacted_at, without_cells}

-- a cell in which the totals of some buffers at a place were put
abbrev pub gathered : ℕ → List FieldBuf → List ℕ → List ℕ
gathered place [] cell = cell
gathered place (buf ∷ bufs) cell = gathered place bufs (slice_set cell buf.field (slice_index buf.cells place))

-- the sum of a cell's totals over the fields of some buffers
abbrev pub held_sum : List FieldBuf → List ℕ → ℕ
held_sum [] cell = 0
held_sum (buf ∷ bufs) cell = slice_index cell buf.field + held_sum bufs cell

-- the sum of what some buffers have at a place
abbrev pub sum_there : ℕ → List FieldBuf → ℕ
sum_there place [] = 0
sum_there place (buf ∷ bufs) = slice_index buf.cells place + sum_there place bufs

-- how many buffers are of a lower field
abbrev pub lower : List FieldBuf → ℕ → ℕ
lower [] f = 0
lower (buf ∷ bufs) f = cond (nat_lt buf.field f) (suc (lower bufs f)) (lower bufs f)

-- a buffer with the total of a cell at a place
abbrev pub with_total : ℕ → List ℕ → FieldBuf → FieldBuf
with_total place cell buf = record buf { cells = slice_set buf.cells place (slice_index cell buf.field) }

-- a cell with nothing of the fields of some buffers
abbrev pub zeroed : List FieldBuf → List ℕ → List ℕ
zeroed [] cell = cell
zeroed (buf ∷ bufs) cell = zeroed bufs (slice_set cell buf.field 0)

-- a new buffer, of a field that other buffers do not have
pub record IsFresh (l : Layout) (block stamp fields : ℕ) (old : List FieldBuf) (buf : FieldBuf) : Type 0 where
  pub of_block : buf.block ≡ block
  pub stamped : buf.stamp ≡ stamp
  pub in_range : buf.field < fields
  pub was_absent : has_field old buf.field ≡ false
  pub as_many : length buf.cells ≡ len l
  pub right : buf.right ≡ replicate (face_count l) 0
  pub left : buf.left ≡ replicate (face_count l) 0

-- new buffers, by rising field
pub record AreFresh (l : Layout) (block stamp fields : ℕ) (old made : List FieldBuf) : Type 0 where
  pub each : All (IsFresh l block stamp fields old) made
  pub rise : Rise 0 made

-- more new buffers: zeros for each of the fields below one that has no buffer and is not zero in a cell
pub record HasRoom (n : ℕ) (cell : List ℕ) (old made now : List FieldBuf) : Type 0 where
  pub same_totals : (f place : ℕ) → total_at now f place ≡ total_at made f place
  pub room : (f : ℕ) → f < n → 0 < slice_index cell f → (has_field old f || has_field now f) ≡ true
  pub stays : (f : ℕ) → has_field made f ≡ true → has_field now f ≡ true
  pub came : (f : ℕ) → has_field now f ≡ true → (has_field made f ≡ true) ⊎ (0 < slice_index cell f)

-- the same for one field
pub record HasRoomFor (field : ℕ) (cell : List ℕ) (old made now : List FieldBuf) : Type 0 where
  pub same_totals : (f place : ℕ) → total_at now f place ≡ total_at made f place
  pub room : 0 < slice_index cell field → (has_field old field || has_field now field) ≡ true
  pub stays : (f : ℕ) → has_field made f ≡ true → has_field now f ≡ true
  pub came : (f : ℕ) → has_field now f ≡ true → (has_field made f ≡ true) ⊎ (0 < slice_index cell f)

-- a block after a kernel was applied in so many of its interior cells
pub record Reached (react : List ℕ → Reacted) (l : Layout) (block stamp : ℕ) (old : List FieldBuf) (old_flows : List Flow) (n : ℕ) (now made : List FieldBuf) (flows : List Flow) : Type 0 where
  pub of_block : AreOf l block (length old_flows) now
  pub fresh : AreFresh l block stamp (length old_flows) now made
  pub same : map without_cells now ≡ map without_cells old
  pub came : (f : ℕ) → has_field made f ≡ true → (k : ℕ) × (k < n) × (0 < slice_index (reacted_at react l old (length old_flows) k).totals f)
  pub reacted : (k f : ℕ) → k < n → f < length old_flows → total_at (now ++ made) f (inner_place l k) ≡ slice_index (reacted_at react l old (length old_flows) k).totals f
  pub rest : (f place : ℕ) → f < length old_flows → ((k : ℕ) → k < n → place ≢ inner_place l k) → total_at (now ++ made) f place ≡ total_at old f place
  pub gained : HasGained react l old n old_flows flows

-- one more cell is what the kernel makes of it, and all else is as before
pub record CellStep (r : Reacted) (place fields : ℕ) (old made now made_now : List FieldBuf) : Type 0 where
  pub same : map without_cells now ≡ map without_cells old
  pub totals : (f p : ℕ) → f < fields → total_at (now ++ made_now) f p ≡ cond (nat_eq p place) (slice_index r.totals f) (total_at (old ++ made) f p)
  pub stays : (f : ℕ) → has_field made f ≡ true → has_field made_now f ≡ true
  pub came : (f : ℕ) → has_field made_now f ≡ true → (has_field made f ≡ true) ⊎ (0 < slice_index r.totals f)
