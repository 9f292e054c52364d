-- For the code: the fields that leaves have.
use Rattle.std.specs.Prelude.{◌≡◌, ◌==◌, ℕ, ◌<◌, true, Option, Some, None, List, [], find, length, replicate}
use Rattle.std.specs.List.{slice_index_or}
use Rattle.block_layout.specs.declared.layout.Layout.{Layout}
use Rattle.block_layout.specs.Indices.{count_of}
use Rattle.sparse_pool.specs.declared.place.Place.{Place}
use Rattle.alloc_epochs.specs.Shelf.{place_on}
use Rattle.mesh_rules.specs.Mask.{Slot, absent}
use Rattle.cell_block.specs.State.{HasLayout, Stored}
use Rattle.cell_block.specs.Rules.{interior_at, slot_in}
use Rattle.cycle_openings.specs.declared.leaf_fields.LeafField.{LeafField}

-- what some fields have by a number, or nothing
abbrev pub found : List LeafField → ℕ → Option LeafField
found fields f = find (λ (x : LeafField). x.field == f) fields

-- the slot of that, and its totals in so many cells: zeros where there is nothing
abbrev pub slot_of : Option LeafField → Slot
slot_of None = absent
slot_of (Some x) = record { kept = true; idle = x.idle }

abbrev pub totals_of : ℕ → Option LeafField → List ℕ
totals_of cells None = replicate cells 0
totals_of cells (Some x) = x.totals

-- it has what a mesh state has at a place
pub record IsFieldAt (s : Stored) (at : Place) (o : Option LeafField) : Type 0 where
  pub slot : slot_of o ≡ slot_in s at.block at.field
  pub totals : (l : Layout) → HasLayout s l → totals_of (count_of s.cells) o ≡ interior_at l s at

-- some fields have what a mesh state has on a leaf, and on the first leaves
abbrev pub AreFieldsOn : Stored → ℕ → List LeafField → Type 0
AreFieldsOn s leaf fields = (f : ℕ) → f < s.fields → IsFieldAt s (place_on leaf f) (found fields f)

pub record AreOnLeaves (s : Stored) (leaves : ℕ) (copies : List (List LeafField)) : Type 0 where
  pub long : length copies ≡ leaves
  pub each : (leaf : ℕ) → leaf < leaves → AreFieldsOn s leaf (slice_index_or copies leaf [])
