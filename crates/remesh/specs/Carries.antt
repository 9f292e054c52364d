-- For the code: mesh states whose leaves have what comes to them from an old one.
use Rattle.std.specs.Prelude.{◌≡◌, ℕ, ◌*◌, ◌<◌, ◌≤◌, false, Option, Some, None, List, [], is_some, length, slice_index, unwrap_or}
use Rattle.std.specs.List.{slice_index_or}
use Rattle.std.specs.Option.{option_and_then, option_map}
use Rattle.morton_order.specs.declared.space.Loc.{Loc}
use Rattle.block_tree.specs.Blocks.{TreeOfBlocks, leaves}
use Rattle.block_layout.specs.declared.layout.Layout.{Layout}
use Rattle.sparse_pool.specs.declared.place.Place.{Place}
use Rattle.alloc_epochs.specs.Shelf.{place_on}
use Rattle.field_bufs.specs.declared.buf.FieldBuf.{FieldBuf}
use Rattle.dense_remesh.specs.declared.origins.Origin.{Origin}
use Rattle.dense_remesh.specs.Parts.{CanTake, IsTaken}
use Rattle.cell_block.specs.State.{Entry, HasLayout, Stored, entry_at, epoch_at, leaf_count}
use Rattle.cell_block.specs.Rules.{IsWhole, interior_in}
use Rattle.remesh.specs.Fields.{AreOnLeaf, CanCarry}
use Rattle.remesh.specs.Leaves.{leaf_on, leaf_with, origin_on}
use Rattle.remesh.specs.Lists.{field_in}
use Rattle.remesh.specs.Sources.{AreNumbersOf, comes_to, counter_after, idle_after}
use Rattle.remesh.specs.Stores.{IsSameFrame}

-- the buffer and the idle count of an entry
abbrev pub buffer_of : Option Entry → Option FieldBuf
buffer_of o = option_and_then (λ (e : Entry). e.buf) o

abbrev pub idle_of_entry : Option Entry → ℕ
idle_of_entry o = unwrap_or (option_map (λ (e : Entry). e.idle) o) 0

-- an entry has what comes of a field to a location
pub record Carries (l : Layout) (s : Stored) (at : Loc) (o : Origin) (f : ℕ) (e : Option Entry) : Type 0 where
  pub taken : IsTaken l (field_in l s f) at o (interior_in l (buffer_of e))
  pub kept : is_some e ≡ comes_to s o f
  pub idle : idle_of_entry e ≡ idle_after s o f
  pub stamps : (buf : FieldBuf) → buffer_of e ≡ Some buf → buf.stamp ≡ 0

-- a mesh state can take over what comes to its leaves
pub record CanCarryAll (l : Layout) (old : Stored) (origins : List Origin) (m : Stored) : Type 0 where
  pub layout_is : HasLayout old l
  pub layout_new : HasLayout m l
  pub whole_old : IsWhole old
  pub whole : IsWhole m
  pub few : old.fields ≤ 256
  pub fields : m.fields ≡ old.fields
  pub count : length origins ≡ leaf_count m
  pub numbers : (k : ℕ) → k < leaf_count m → AreNumbersOf old (origin_on origins k)
  pub can : (k f : ℕ) → k < leaf_count m → f < old.fields → CanTake l (field_in l old f) (origin_on origins k)
  pub absent : (k f : ℕ) → k < leaf_count m → f < old.fields → comes_to old (origin_on origins k) f ≡ false → entry_at m (place_on k f) ≡ None
  pub epochs : (list : ℕ) → epoch_at m list ≡ 0

-- the first so many leaves have it
pub record AreCarriedTo (l : Layout) (old : Stored) (origins : List Origin) (start now : Stored) (k : ℕ) : Type 0 where
  pub frame : IsSameFrame start now
  pub whole : IsWhole now
  pub places : (j f : ℕ) → j < k → f < old.fields → Carries l old (leaf_on start.tree j) (origin_on origins j) f (entry_at now (place_on j f))
  pub others : (at : Place) → k ≤ at.block → entry_at now at ≡ entry_at start at
  pub counters : (j : ℕ) → j < k → slice_index now.counters j ≡ counter_after old (origin_on origins j)
  pub epochs : (list : ℕ) → epoch_at now list ≤ 256 * k

-- each leaf of a tree can take over what comes to it
pub record CanCarryEach (l : Layout) (old : Stored) (t : TreeOfBlocks) (origins : List Origin) : Type 0 where
  pub count : length origins ≡ length (leaves t)
  pub each : (k : ℕ) → k < length (leaves t) → CanCarry (leaf_with l old t origins k)

-- the buffers of each leaf
pub record AreAllOnLeaves (l : Layout) (old : Stored) (t : TreeOfBlocks) (origins : List Origin) (all : List (List FieldBuf)) : Type 0 where
  pub count : length all ≡ length (leaves t)
  pub each : (k : ℕ) → k < length (leaves t) → AreOnLeaf (leaf_with l old t origins k) (slice_index_or all k [])

-- the buffers of one of them
unfoldable pub AreBuffersOn : Layout → Stored → TreeOfBlocks → List Origin → ℕ → List FieldBuf → Type 0
AreBuffersOn l old t origins k bufs = AreOnLeaf (leaf_with l old t origins k) bufs
