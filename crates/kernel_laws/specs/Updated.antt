-- What the update of a block leaves is the stage of the mesh.
use Rattle.std.specs.Prelude.{◌≡◌, ℕ, List, slice_index}
use Rattle.mesh_rules.specs.Stage.{staged}
use Rattle.block_layout.specs.Indices.{IsWithin}
use Rattle.block_geometry.specs.Blocks.{FieldBlock, IsFieldBlock, cell_in, own_place}
use Rattle.block_geometry.specs.Contents.{HasInterior, HasPairs}
use Rattle.transport_kernel.specs.Update.{HasPassed, listed}

-- where the lists have the mesh's pairs at all faces, each own cell is the staged one after the update
abbrev pub UpdatedIsStaged : Type 0
UpdatedIsStaged = (b : FieldBlock) (cells right left new : List ℕ) → IsFieldBlock b → HasInterior b cells → HasPairs b right left
    → HasPassed b.layout (listed b.layout right) (listed b.layout left) cells new
    → (i : List ℕ) → IsWithin b.layout.cells i → slice_index new (own_place b.layout i) ≡ staged b.settings b.mesh b.field (cell_in b.mesh b.leaf i)
