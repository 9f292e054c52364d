-- Which state of the rules a mesh state stands for.
use Rattle.std.specs.Prelude.{◌≡◌, ℕ, cond, false, Option, Some, None, List, length, replicate}
use Rattle.mesh_rules.specs.Sums.{table}
use Rattle.block_tree.specs.Blocks.{TreeOfBlocks, leaves}
use Rattle.block_layout.specs.declared.layout.Layout.{Layout}
use Rattle.block_layout.specs.Faces.{face_count}
use Rattle.block_layout.specs.Layouts.{interior_len, len}
use Rattle.block_layout.specs.Regions.{cell_place, interior}
use Rattle.std.specs.Prelude.{slice_index}
use Rattle.sparse_pool.specs.declared.place.Place.{Place}
use Rattle.alloc_epochs.specs.Shelf.{place_on}
use Rattle.field_bufs.specs.declared.buf.FieldBuf.{FieldBuf}
use Rattle.field_bufs.specs.Buffers.{zeros}
use Rattle.problem_set.specs.Settings.{Settings}
use Rattle.mesh_rules.specs.Mesh.{Mesh}
use Rattle.mesh_rules.specs.Fields.{field_count, is_sparse}
use Rattle.mesh_rules.specs.Mask.{Mask, Slot}
use Rattle.mesh_rules.specs.Cycle.{State}
use Rattle.mesh_rules.specs.Due.{partition_count, partition_size}
use Rattle.mesh_rules.specs.Fit.{IsFit}
use Rattle.cell_block.specs.State.{Entry, HasLayout, Stored, buffer_at, idle_at, is_allocated, is_lent}

-- the layout is that of the blocks of a problem
pub record IsLayoutFor (p : Settings) (l : Layout) : Type 0 where
  pub dims : l.dims ≡ p.shape.dims
  pub cells : l.cells ≡ p.cells

-- the totals of a block's own cells in a list that has its ghosts too, x1 fastest
abbrev pub interior_of : Layout → List ℕ → List ℕ
interior_of l cells = table (interior_len l) (λ k. slice_index cells (cell_place l (interior l) k))

-- the same of a buffer: all zero where there is none
abbrev pub interior_in : Layout → Option FieldBuf → List ℕ
interior_in l None = replicate (interior_len l) 0
interior_in l (Some buf) = interior_of l buf.cells

-- the totals of a field on a block
abbrev pub interior_at : Layout → Stored → Place → List ℕ
interior_at l s at = interior_in l (buffer_at s at)

-- the mesh whose totals stand in the buffers
abbrev pub mesh_in : Layout → Stored → Mesh
mesh_in l s = record {
  shape = s.tree.shape;
  cells = s.cells;
  inner = s.tree.inner;
  leaves = leaves s.tree;
  totals = table (length (leaves s.tree)) (λ leaf. table s.fields (λ f. interior_at l s (place_on leaf f)));
}

-- what is kept: the fields that are allocated, with their idle counts
abbrev pub slot_in : Stored → ℕ → ℕ → Slot
slot_in s leaf f = record { kept = is_allocated s (place_on leaf f); idle = idle_at s (place_on leaf f) }

abbrev pub mask_in : Stored → Mask
mask_in s = table (length (leaves s.tree)) (λ leaf. table s.fields (slot_in s leaf))

-- the state of the rules that a mesh state has
abbrev pub state_in : Layout → Stored → State
state_in l s = record { mesh = mesh_in l s; mask = mask_in s; counters = s.counters }

-- nothing is lent
abbrev pub IsWhole : Stored → Type 0
IsWhole s = (at : Place) → is_lent s at ≡ false

-- a mesh state of a problem with nothing lent: its blocks are the problem's, with a place for each of its fields, in
-- partitions of its size
pub record IsStoredFor (p : Settings) (s : Stored) : Type 0 where
  pub whole : IsWhole s
  pub shape : s.tree.shape ≡ p.shape
  pub dims : s.dims ≡ p.shape.dims
  pub cells : s.cells ≡ p.cells
  pub fields : s.fields ≡ field_count p
  pub size : s.size ≡ partition_size p.pack_size (length (leaves s.tree))

-- it stands for a state of the rules: the tree is the mesh's, what is allocated is exactly what is kept, with its idle
-- count, the totals are the mesh's, zero where a field is not allocated, and the counters are the state's
pub record StandsFor (p : Settings) (s : Stored) (c : State) : Type 0 where
  pub stored : IsStoredFor p s
  pub state : (l : Layout) → HasLayout s l → state_in l s ≡ c

-- it stands for a state from which a cycle may start
abbrev pub IsFitFor : Settings → Stored → Type 0
IsFitFor p s = (c : State) × (StandsFor p s c × IsFit p c)

-- what is kept at first of a field on a block: a buffer of zeros, but nothing of a sparse field
abbrev pub opening_entry : Settings → Layout → ℕ → ℕ → Option Entry
opening_entry p l block f =
    cond (is_sparse p f) None (Some (record { idle = 0; buf = Some (zeros (len l) (face_count l) block f 0) }))

-- the mesh state of a tree with the fields that no block may go without, as zeros
abbrev pub opening_stored : Settings → Layout → TreeOfBlocks → List ℕ → Stored
opening_stored p l t spares = record {
  tree = t;
  dims = p.shape.dims;
  cells = p.cells;
  fields = field_count p;
  size = partition_size p.pack_size (length (leaves t));
  places = table (length (leaves t)) (λ block. table (field_count p) (opening_entry p l block));
  counters = replicate (length (leaves t)) 0;
  epochs = replicate (partition_count p (length (leaves t))) 0;
  spares = spares;
}
