-- What flux parts of finer leaves put in the lists of a coarser one.
use Rattle.std.specs.Prelude.{◌≡◌, ℕ, zero, suc, ◌+◌, ◌*◌, ◌/◌, ◌%◌, ◌<◌, Bool, not, Some, List, IsTrue, slice_index}
use Rattle.morton_order.specs.declared.space.Loc.{Loc}
use Rattle.morton_order.specs.Space.{child, parts}
use Rattle.morton_order.specs.Neighbours.{across}
use Rattle.block_tree.specs.Behind.{is_high_half}
use Rattle.mesh_rules.specs.Mesh.{is_inner}
use Rattle.block_layout.specs.Indices.{IsWithin, count_of}
use Rattle.block_layout.specs.Faces.{face_of}
use Rattle.block_geometry.specs.Blocks.{FieldBlock, IsFieldBlock}
use Rattle.block_geometry.specs.Contents.{HasPair, pair_of}
use Rattle.ghost_laws.specs.Given.{IsBeside}
use Rattle.ghost_laws.specs.Layers.{across_index}
use Rattle.ghost_laws.specs.Refined.{child_at}
use Rattle.flux_correct.specs.Sums.{coarse_extents, flux_part}
use Rattle.flux_correct.specs.Corrected.{IsCorrected}
use Rattle.flux_laws.specs.Corrected.{HaveOwnPairs, finer_sums}

-- the part of a coarser leaf's side that the child j of the block across covers: j without the bit of the side's axis. With three
-- axes in use the children 0, 1, 4 and 5 stand at a side of x2, and cover its parts 0, 1, 2 and 3
abbrev pub half_of : ℕ → ℕ → ℕ
half_of zero j = j / 2
half_of (suc zero) j = j % 2 + 2 * (j / 4)
half_of (suc (suc _)) j = j % 4

-- the child j of the block across a side stands next to this side
pub record IsNextTo (b : FieldBlock) (axis : ℕ) (high : Bool) (j : ℕ) : Type 0 where
  pub sound : IsFieldBlock b
  pub used : axis < b.layout.dims
  pub child : j < parts b.mesh.shape.dims
  pub half : is_high_half j axis ≡ not high

-- it covers the face of a cell there
pub record Covers (b : FieldBlock) (axis : ℕ) (high : Bool) (j : ℕ) (i : List ℕ) : Type 0 where
  pub beside : IsBeside b axis high i
  pub child : child_at b.mesh (across_index b.mesh axis high 0 i) ≡ j

-- the lists of what passes to the right and to the left, before and after
pub record Lists : Type 0 where
  pub right : List ℕ
  pub left : List ℕ

-- a flux part has been put in the place of what passed the faces that this child covers
pub record IsReplaced (b : FieldBlock) (axis : ℕ) (high : Bool) (j : ℕ) (part : List ℕ) (old new : Lists) : Type 0 where
  pub rights : IsCorrected b.layout axis high (half_of axis j) 0 part old.right new.right
  pub lefts : IsCorrected b.layout axis high (half_of axis j) (count_of (coarse_extents b.layout axis)) part old.left new.left

-- the part is that of what the finer leaf's lists have at its own side
abbrev pub part_of : FieldBlock → ℕ → Bool → List ℕ → List ℕ → List ℕ
part_of b axis high right left = flux_part b.layout axis (not high) right left

-- two lists have the same at a face
abbrev pub IsSameAt : FieldBlock → List ℕ → ℕ → Bool → Lists → Lists → Type 0
IsSameAt b i axis high old new =
    (slice_index new.right (face_of b.layout i axis high) ≡ slice_index old.right (face_of b.layout i axis high)) × (slice_index new.left (face_of b.layout i axis high) ≡ slice_index old.left (face_of b.layout i axis high))

-- then these faces have the sums that correction asks for, and all other faces have what they had
pub record IsCorrectedAt (b : FieldBlock) (axis : ℕ) (high : Bool) (o : Loc) (j : ℕ) (rights lefts : Loc → List ℕ) (old new : Lists) : Type 0 where
  pub sums : (i : List ℕ) → Covers b axis high j i → HasPair b.layout new.right new.left i axis high (finer_sums b rights lefts axis high o i)
  pub others : (i : List ℕ) (along : ℕ) (side : Bool) → along < b.layout.dims → IsWithin b.layout.cells i → ((along ≡ axis) × (side ≡ high) × Covers b axis high j i → ⊥) → IsSameAt b i along side old new

abbrev pub ReplacedAreCorrected : Type 0
ReplacedAreCorrected = (b : FieldBlock) (axis : ℕ) (high : Bool) (o : Loc) (j : ℕ) (rights lefts : Loc → List ℕ) (old new : Lists) → IsNextTo b axis high j →
    IsReplaced b axis high j (part_of b axis high (rights (child b.mesh.shape.dims o j)) (lefts (child b.mesh.shape.dims o j))) old new → IsCorrectedAt b axis high o j rights lefts old new

-- where the block across has finer leaves whose lists have their own pairs, these faces have the mesh's pairs then, and each face that
-- had the mesh's pair has it still
pub record GainsPairs (b : FieldBlock) (axis : ℕ) (high : Bool) (j : ℕ) (old new : Lists) : Type 0 where
  pub covered : (i : List ℕ) → Covers b axis high j i → HasPair b.layout new.right new.left i axis high (pair_of b i axis high)
  pub kept : (i : List ℕ) (along : ℕ) (side : Bool) → along < b.layout.dims → IsWithin b.layout.cells i → HasPair b.layout old.right old.left i along side (pair_of b i along side) →
      HasPair b.layout new.right new.left i along side (pair_of b i along side)

abbrev pub ReplacedGainPairs : Type 0
ReplacedGainPairs = (b : FieldBlock) (axis : ℕ) (high : Bool) (o : Loc) (j : ℕ) (rights lefts : Loc → List ℕ) (old new : Lists) → IsNextTo b axis high j →
    across b.mesh.shape b.leaf axis high ≡ Some o → IsTrue (is_inner b.mesh o) → HaveOwnPairs b rights lefts →
    IsReplaced b axis high j (part_of b axis high (rights (child b.mesh.shape.dims o j)) (lefts (child b.mesh.shape.dims o j))) old new → GainsPairs b axis high j old new
