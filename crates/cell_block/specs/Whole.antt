-- For the code: the tree, the layout and the store of a mesh state.
use Rattle.std.specs.Prelude.{◌≡◌, ◌≢◌, ℕ, ◌+◌, ◌*◌, ◌<◌, ◌≤◌, Option, None, Some, List, [], ◌∷◌, length, replicate, slice_index}
use Rattle.block_tree.specs.Blocks.{TreeOfBlocks, leaves}
use Rattle.block_layout.specs.declared.layout.Layout.{Layout}
use Rattle.block_layout.specs.Faces.{face_count}
use Rattle.block_layout.specs.Layouts.{ghost_layers, len, widths}
use Rattle.cell_boxes.specs.declared.boxes.BoxIn.{BoxIn}
use Rattle.sparse_pool.specs.declared.place.Place.{Place}
use Rattle.field_bufs.specs.declared.buf.FieldBuf.{FieldBuf}
use Rattle.field_bufs.specs.Buffers.{HasSizes, zeros}
use Rattle.problem_set.specs.Settings.{Settings}
use Rattle.cell_block.specs.State.{Entry, Stored, buffer_in, entry_in, place_of}
use Rattle.cell_block.specs.Rules.{opening_entry}
use Rattle.cell_block.specs.Partitions.{lists_of}
use Rattle.cell_block.specs.Store.{Placed}
use Rattle.mesh_rules.specs.Fields.{field_count}
use Rattle.mesh_rules.specs.Sums.{table}

-- the parts as one
abbrev pub stored : TreeOfBlocks → Layout → Placed → List ℕ → Stored
stored t l s counters = record {
  tree = t;
  dims = l.dims;
  cells = l.cells;
  fields = s.fields;
  size = s.size;
  places = s.places;
  counters = counters;
  epochs = s.epochs;
  spares = s.spares;
}

-- each buffer is of its place and has lists of the right lengths
pub record AreBuffers (l : Layout) (places : List (List (Option Entry))) : Type 0 where
  pub own : (at : Place) (buf : FieldBuf) → buffer_in places at ≡ Some buf → place_of buf ≡ at
  pub fit : (at : Place) (buf : FieldBuf) → buffer_in places at ≡ Some buf → HasSizes l buf

-- the parts fit
pub record AreStored (t : TreeOfBlocks) (l : Layout) (s : Placed) (counters : List ℕ) : Type 0 where
  pub leaf_rows : s.leaves ≡ length (leaves t)
  pub counters_long : length counters ≡ length (leaves t)
  pub buffers : AreBuffers l s.places

-- what is kept at first of a field that no block may go without
abbrev pub zero_entry : Layout → ℕ → ℕ → Entry
zero_entry l block field = record { idle = 0; buf = Some (zeros (len l) (face_count l) block field 0) }

-- a field was added on the first blocks
pub record AddsOn (l : Layout) (field blocks : ℕ) (old new : Placed) : Type 0 where
  pub size : new.size ≡ old.size
  pub leaf_rows : new.leaves ≡ old.leaves
  pub numbers : new.fields ≡ old.fields
  pub added : (at : Place) → at.block < blocks → at.field ≡ field → entry_in new.places at ≡ Some (zero_entry l at.block at.field)
  pub later : (at : Place) → blocks ≤ at.block → entry_in new.places at ≡ entry_in old.places at
  pub others : (at : Place) → at.field ≢ field → entry_in new.places at ≡ entry_in old.places at
  pub epochs : (most : ℕ) → ((list : ℕ) → slice_index old.epochs list ≤ most) → (list : ℕ) → slice_index new.epochs list ≤ most + blocks

-- the first fields were opened on all blocks
pub record AreOpened (p : Settings) (l : Layout) (count numbers upto : ℕ) (s : Placed) : Type 0 where
  pub leaves_are : s.leaves ≡ count
  pub fields_are : s.fields ≡ numbers
  pub opened : (at : Place) → at.block < count → at.field < upto → entry_in s.places at ≡ opening_entry p l at.block at.field
  pub closed : (at : Place) → upto ≤ at.field → entry_in s.places at ≡ None
  pub epochs : (list : ℕ) → slice_index s.epochs list ≤ upto * count

-- the cells along each axis, and the interior as a box of the list
abbrev pub extents_of : Layout → List ℕ
extents_of l = slice_index l.cells 0 ∷ slice_index l.cells 1 ∷ slice_index l.cells 2 ∷ []

abbrev pub interior_box : Layout → BoxIn
interior_box l = record { first = 0; widths = widths l; low = ghost_layers l 0 ∷ ghost_layers l 1 ∷ ghost_layers l 2 ∷ [] }

-- the store of so many leaves, in partitions of a size, with the fields that no block may go without, as zeros
abbrev pub opening_placed : Settings → Layout → ℕ → ℕ → List ℕ → Placed
opening_placed p l size n spares = record {
  size = size;
  leaves = n;
  fields = field_count p;
  places = table n (λ block. table (field_count p) (opening_entry p l block));
  epochs = replicate (lists_of size n) 0;
  spares = spares;
}
