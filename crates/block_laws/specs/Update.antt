-- A block's update by its pairs is the stage of the mesh.
use Rattle.std.specs.Prelude.{◌≡◌, ℕ, ◌+◌, ◌-◌, true, false, List, slice_index}
use Rattle.mesh_rules.specs.Sums.{sum_to}
use Rattle.mesh_rules.specs.Stage.{gain, loss, staged}
use Rattle.block_layout.specs.declared.layout.Layout.{Layout}
use Rattle.block_layout.specs.Indices.{IsWithin}
use Rattle.block_layout.specs.Faces.{face_of}
use Rattle.block_geometry.specs.Blocks.{FieldBlock, IsFieldBlock, cell_in, own_place}
use Rattle.block_geometry.specs.Contents.{HasInterior, HasPairs}

-- what the faces of a cell bring by the lists of a block: to the right through its low faces, to the left through its high faces
abbrev pub gained : Layout → List ℕ → List ℕ → List ℕ → ℕ
gained l right left i = sum_to l.dims (λ axis. slice_index right (face_of l i axis false) + slice_index left (face_of l i axis true))

-- and what they take
abbrev pub lost : Layout → List ℕ → List ℕ → List ℕ → ℕ
lost l right left i = sum_to l.dims (λ axis. slice_index left (face_of l i axis false) + slice_index right (face_of l i axis true))

-- where the lists have the mesh's pairs at all faces, a cell's gains and losses are the mesh's, and with them it becomes the staged one
pub record IsStagedBy (b : FieldBlock) (cells right left i : List ℕ) : Type 0 where
  pub gains : gained b.layout right left i ≡ gain b.settings b.mesh b.field (cell_in b.mesh b.leaf i)
  pub losses : lost b.layout right left i ≡ loss b.settings b.mesh b.field (cell_in b.mesh b.leaf i)
  pub staged : slice_index cells (own_place b.layout i) + gained b.layout right left i - lost b.layout right left i ≡ staged b.settings b.mesh b.field (cell_in b.mesh b.leaf i)

abbrev pub UpdateIsStage : Type 0
UpdateIsStage = (b : FieldBlock) (cells right left i : List ℕ) → IsFieldBlock b → HasInterior b cells → HasPairs b right left → IsWithin b.layout.cells i → IsStagedBy b cells right left i
