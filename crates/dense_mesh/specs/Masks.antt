-- Which mask the lists of slots by field and leaf are.
use Rattle.std.specs.Prelude.{◌≡◌, ℕ, ◌<◌, false, List, [], length}
use Rattle.std.specs.List.{slice_index_or}
use Rattle.mesh_rules.specs.Sums.{table}
use Rattle.mesh_rules.specs.Mask as mask
use Rattle.mesh_rules.specs.Mask.{Mask}
use Rattle.dense_mesh.specs.declared.totals.Slot.{Slot}

-- a slot as the rules have it
abbrev pub slot_of : Slot → mask.Slot
slot_of s = record { kept = s.kept; idle = s.idle }

-- the slot of a field on a leaf, by the numbers of both
abbrev pub slot_in : List (List Slot) → ℕ → ℕ → Slot
slot_in lists f leaf = slice_index_or (slice_index_or lists f []) leaf (record { kept = false; idle = 0 })

-- the mask with these lists of slots, on so many leaves
abbrev pub mask_of : ℕ → List (List Slot) → Mask
mask_of leaves lists = table leaves (λ leaf. table (length lists) (λ f. slot_of (slot_in lists f leaf)))

-- a slot for each of so many fields and leaves
pub record AreSlots (count leaves : ℕ) (lists : List (List Slot)) : Type 0 where
  pub fields : length lists ≡ count
  pub leaf_slots : (f : ℕ) → f < count → length (slice_index_or lists f []) ≡ leaves
