-- For the code: the slots and counters of leaves of a next tree.
use Rattle.std.specs.Prelude.{ℕ, Bool, false, Option, Some, None, List}
use Rattle.std.specs.List.{list_any, range_with_len, slice_index_or}
use Rattle.dense_mesh.specs.declared.totals.Slot.{Slot}
use Rattle.dense_remesh.specs.declared.origins.Origin.{Origin}
use Rattle.dense_remesh.specs.declared.origins.Origin.TheVariants.{Leaf, Parent, Children}

-- the slot of a leaf by its number, none is kept where it has no number
abbrev pub slot_at : List Slot → ℕ → Slot
slot_at slots leaf = slice_index_or slots leaf (record { kept = false; idle = 0 })

-- whether a leaf with or without a number keeps a field
abbrev pub keeps : List Slot → Option ℕ → Bool
keeps slots None = false
keeps slots (Some leaf) = (slot_at slots leaf).kept

-- the slot of a new leaf: as it was, or kept where the parent or one of the children kept the field
abbrev pub carried_slot : ℕ → List Slot → Origin → Slot
carried_slot parts slots (Leaf leaf) = slot_at slots leaf
carried_slot parts slots (Parent leaf) = record { kept = (slot_at slots leaf).kept; idle = 0 }
carried_slot parts slots (Children numbers) = record { kept = list_any (λ j. keeps slots (slice_index_or numbers j None)) (range_with_len 0 parts); idle = 0 }

-- the counter of a leaf that had a number, or none
abbrev pub counter_at : List ℕ → Option ℕ → ℕ
counter_at counters None = 0
counter_at counters (Some leaf) = slice_index_or counters leaf 0
