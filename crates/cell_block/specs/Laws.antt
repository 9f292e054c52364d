-- What holds of mesh states.
use Rattle.std.specs.Prelude.{◌≡◌, ℕ, ◌<◌}
use Rattle.block_layout.specs.declared.layout.Layout.{Layout}
use Rattle.alloc_epochs.specs.Shelf.{place_on}
use Rattle.mesh_rules.specs.Mesh.{totals_on}
use Rattle.mesh_rules.specs.Mask.{blocks_with, slot_at}
use Rattle.cell_block.specs.State.{IsStored, Stored, count_on, leaf_count}
use Rattle.cell_block.specs.Rules.{interior_at, mask_in, mesh_in, slot_in}

-- the mesh of a mesh state has on each leaf what stands in the buffer there, and zeros where there is none
abbrev pub TotalsAreInteriors : Type 0
TotalsAreInteriors = (l : Layout) (s : Stored) (leaf f : ℕ) → leaf < leaf_count s → f < s.fields
    → totals_on (mesh_in l s) leaf f ≡ interior_at l s (place_on leaf f)

-- its mask has the slot of each place
abbrev pub SlotsArePlaces : Type 0
SlotsArePlaces = (s : Stored) (leaf f : ℕ) → leaf < leaf_count s → f < s.fields
    → slot_at (mask_in s) leaf f ≡ slot_in s leaf f

-- a field is allocated on as many blocks as keep it
abbrev pub CountsAreKept : Type 0
CountsAreKept = (s : Stored) (f : ℕ) → IsStored s → f < s.fields → count_on s f ≡ blocks_with (mask_in s) f
