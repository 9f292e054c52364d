-- For the code: slots that are made one by one.
use Rattle.std.specs.Prelude.{◌≡◌, ℕ, ◌+◌, ◌<◌, Bool, false, cond, nat_le, List, [], length}
use Rattle.std.specs.List.{slice_index_or}
use Rattle.mesh_rules.specs.Mask as mask
use Rattle.mesh_rules.specs.Mask.{absent}
use Rattle.dense_mesh.specs.declared.totals.Slot.{Slot}
use Rattle.dense_mesh.specs.Masks.{slot_of}

-- the slot of a leaf past the end
abbrev pub no_slot : Slot
no_slot = record { kept = false; idle = 0 }

-- a field's slot on a leaf
abbrev pub slot_on : List Slot → ℕ → Slot
slot_on slots leaf = slice_index_or slots leaf no_slot

-- a field's slots on so many leaves are those that each number gives
pub record AreSlotsBy (leaves : ℕ) (each : ℕ → mask.Slot) (slots : List Slot) : Type 0 where
  pub many : length slots ≡ leaves
  pub each_slot : (leaf : ℕ) → leaf < leaves → slot_of (slot_on slots leaf) ≡ each leaf

-- so are those of so many fields
pub record AreFieldsBy (count leaves : ℕ) (each : ℕ → ℕ → mask.Slot) (slots : List (List Slot)) : Type 0 where
  pub fields : length slots ≡ count
  pub each_field : (f : ℕ) → f < count → AreSlotsBy leaves (each f) (slice_index_or slots f [])

-- the slot of a sparse field after a check
abbrev pub checked_by : ℕ → Bool → mask.Slot → mask.Slot
checked_by limit is_idle slot = cond slot.kept (cond is_idle (cond (nat_le limit (slot.idle + 1)) absent (record slot { idle = slot.idle + 1 })) (record slot { idle = 0 })) slot
