-- For the code: a mesh state in lists by field and leaf.
use Rattle.std.specs.Prelude.{ℕ, List}
use Rattle.block_layout.specs.declared.layout.Layout.{Layout}
use Rattle.alloc_epochs.specs.Shelf.{place_on}
use Rattle.mesh_rules.specs.Sums.{table}
use Rattle.dense_mesh.specs.declared.totals.Slot.{Slot}
use Rattle.cell_block.specs.State.{Stored, idle_at, is_allocated, leaf_count}
use Rattle.cell_block.specs.Rules.{interior_at}

-- the totals of a field, by leaf
abbrev pub field_in : Layout → Stored → ℕ → List (List ℕ)
field_in l s f = table (leaf_count s) (λ leaf. interior_at l s (place_on leaf f))

-- of all fields
abbrev pub lists_in : Layout → Stored → List (List (List ℕ))
lists_in l s = table s.fields (field_in l s)

-- whether a field is allocated on a leaf, with its idle count
abbrev pub slot_of_place : Stored → ℕ → ℕ → Slot
slot_of_place s f leaf = record { kept = is_allocated s (place_on leaf f); idle = idle_at s (place_on leaf f) }

-- by leaf, and of all fields
abbrev pub field_slots_in : Stored → ℕ → List Slot
field_slots_in s f = table (leaf_count s) (slot_of_place s f)

abbrev pub slots_in : Stored → List (List Slot)
slots_in s = table s.fields (field_slots_in s)
