-- A side of a leaf, and the part of it that a child covers.
use Rattle.std.specs.Prelude.{ℕ, zero, suc, ◌+◌, ◌*◌, ◌/◌, ◌%◌, ◌<◌, Bool, List}
use Rattle.block_tree.specs.Behind.{Behind, behind}
use Rattle.mesh_rules.specs.Mesh.{is_inner}
use Rattle.block_layout.specs.Indices.{IsWithin}
use Rattle.block_geometry.specs.Blocks.{FieldBlock, IsAtSide, IsFieldBlock}
use Rattle.block_geometry.specs.Contents.{SeesBeyond}
use Rattle.ghost_laws.specs.Layers.{across_index}
use Rattle.ghost_laws.specs.Refined.{LiesInChild}

-- the number of the part of a side that the child j of a block covers: the child's number with the digit of the side's axis left
-- out, so that of the child 6 it is 3 across x1, 2 across x2 and 2 across x3
abbrev pub side_part : ℕ → ℕ → ℕ
side_part zero j = j / 2
side_part (suc zero) j = j % 2 + 2 * (j / 4)
side_part (suc (suc _)) j = j % 4

-- a side of a leaf, along an axis in use
pub record IsSide (b : FieldBlock) (axis : ℕ) : Type 0 where
  pub sound : IsFieldBlock b
  pub used : axis < b.layout.dims

-- what stands behind it
abbrev pub behind_side : FieldBlock → ℕ → Bool → Behind
behind_side b axis high = behind b.mesh.shape (is_inner b.mesh) b.leaf axis high

-- the ghosts beyond a side have what the mesh sees there, beside the part that the child j of the block across covers
abbrev pub SeesBeyondPart : FieldBlock → List ℕ → ℕ → Bool → ℕ → Type 0
SeesBeyondPart b cells axis high j = (i : List ℕ) → IsWithin b.layout.cells i → IsAtSide b.layout axis high i → LiesInChild b.mesh j (across_index b.mesh axis high 0 i) → SeesBeyond b cells i axis high
