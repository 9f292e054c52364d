-- For the code: the buffers of a leaf of a next tree.
use Rattle.std.specs.Prelude.{◌≡◌, ℕ, ◌<◌, ◌≤◌, Bool, true, false, Option, Some, None, List, All, length, nat_eq}
use Rattle.std.specs.List.{list_any}
use Rattle.field_bufs.specs.declared.buf.FieldBuf.{FieldBuf}
use Rattle.field_bufs.specs.Buffers.{HasSizes}
use Rattle.block_layout.specs.Layouts.{len}
use Rattle.dense_remesh.specs.Parts.{CanTake, IsTaken}
use Rattle.cell_block.specs.State.{Entry, HasLayout, Stored}
use Rattle.cell_block.specs.Rules.{IsWhole, interior_of}
use Rattle.remesh.specs.Leaves.{LeafOf}
use Rattle.remesh.specs.Lists.{field_in}
use Rattle.remesh.specs.Sources.{AreNumbersOf, comes_to, idle_after}

-- whether a field comes to a leaf, with which idle count, and the lists of the field on the old leaves
abbrev pub comes : LeafOf → ℕ → Bool
comes n f = comes_to n.old n.origin f

abbrev pub idle_on : LeafOf → ℕ → ℕ
idle_on n f = idle_after n.old n.origin f

abbrev pub old_lists : LeafOf → ℕ → List (List ℕ)
old_lists n f = field_in n.layout n.old f

-- old leaves in whose place it stands have what it needs
pub record CanCarry (n : LeafOf) : Type 0 where
  pub layout_is : HasLayout n.old n.layout
  pub whole : IsWhole n.old
  pub few : n.old.fields ≤ 256
  pub numbers : AreNumbersOf n.old n.origin
  pub can : (f : ℕ) → f < n.old.fields → CanTake n.layout (old_lists n f) n.origin

-- the cells of a field on it, with their ghosts
pub record AreCarried (n : LeafOf) (f : ℕ) (cells : List ℕ) : Type 0 where
  pub size : length cells ≡ len n.layout
  pub taken : IsTaken n.layout (old_lists n f) n.at n.origin (interior_of n.layout cells)

-- a buffer of a field that comes to it
pub record IsOnLeaf (n : LeafOf) (buf : FieldBuf) : Type 0 where
  pub block_is : buf.block ≡ n.number
  pub within : buf.field < n.old.fields
  pub stamp_is : buf.stamp ≡ 0
  pub coming : comes n buf.field ≡ true
  pub sizes : HasSizes n.layout buf
  pub taken : IsTaken n.layout (old_lists n buf.field) n.at n.origin (interior_of n.layout buf.cells)

-- whether a field has a buffer in a list
abbrev pub has_buffer : List FieldBuf → ℕ → Bool
has_buffer bufs f = list_any (λ (buf : FieldBuf). nat_eq buf.field f) bufs

-- buffers of all fields that come to it
pub record AreOnLeaf (n : LeafOf) (bufs : List FieldBuf) : Type 0 where
  pub few : length bufs ≤ n.old.fields
  pub shaped : All (IsOnLeaf n) bufs
  pub missing : (f : ℕ) → f < n.old.fields → has_buffer bufs f ≡ false → comes n f ≡ false

-- those of the fields below a number
pub record AreBelow (n : LeafOf) (from : ℕ) (bufs : List FieldBuf) : Type 0 where
  pub within : from ≤ n.old.fields
  pub few : length bufs ≤ from
  pub shaped : All (IsOnLeaf n) bufs
  pub missing : (f : ℕ) → f < from → has_buffer bufs f ≡ false → comes n f ≡ false

-- an entry that has a buffer of the field, with its idle count
pub record IsKeptOn (n : LeafOf) (f : ℕ) (e : Entry) : Type 0 where
  pub buffer : FieldBuf
  pub buf_is : e.buf ≡ Some buffer
  pub idle_is : e.idle ≡ idle_on n f
  pub field_is : buffer.field ≡ f
  pub on_leaf : IsOnLeaf n buffer

-- what is kept of a field on the leaf: its buffer, or nothing where it does not come
abbrev pub IsPlaceOf : LeafOf → ℕ → Option Entry → Type 0
IsPlaceOf n f None = comes n f ≡ false
IsPlaceOf n f (Some e) = IsKeptOn n f e
