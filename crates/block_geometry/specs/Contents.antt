-- What the lists of a block have of a field of a mesh.
use Rattle.std.specs.Prelude.{◌≡◌, ℕ, ◌+◌, ◌<◌, Bool, false, Option, Some, None, List, slice_index}
use Rattle.morton_order.specs.declared.space.Loc.{Loc}
use Rattle.mesh_rules.specs.Mesh.{Mesh, block_of, is_inner, stored}
use Rattle.mesh_rules.specs.Faces.{Looks, Pair, cell_across, face_pair, seen_next, seen_second}
use Rattle.block_layout.specs.declared.layout.Layout.{Layout}
use Rattle.block_layout.specs.Indices.{IsWithin}
use Rattle.block_layout.specs.Faces.{face_of}
use Rattle.block_geometry.specs.Blocks.{FieldBlock, IsAtSide, cell_in, ghost_place, own_place, row_place}

-- each own cell has what the mesh has stored there
abbrev pub HasInterior : FieldBlock → List ℕ → Type 0
HasInterior b cells = (i : List ℕ) → IsWithin b.layout.cells i → slice_index cells (own_place b.layout i) ≡ stored b.mesh b.field (cell_in b.mesh b.leaf i)

-- the two ghosts beyond a side in the row of a cell have what is seen in the next and in the second cell across this side, on the
-- block's own level; beyond a face of the domain both have what stands outside
pub record SeesBeyond (b : FieldBlock) (list : List ℕ) (i : List ℕ) (axis : ℕ) (high : Bool) : Type 0 where
  pub next : slice_index list (ghost_place b.layout axis high 0 i) ≡ seen_next b.settings b.mesh b.field (cell_in b.mesh b.leaf i) axis high
  pub second : slice_index list (ghost_place b.layout axis high 1 i) ≡ seen_second b.settings b.mesh b.field (cell_in b.mesh b.leaf i) axis high

-- so it is beyond one side of a block, and beyond each side of each axis in use
abbrev pub SeesBeyondSide : FieldBlock → List ℕ → ℕ → Bool → Type 0
SeesBeyondSide b cells axis high = (i : List ℕ) → IsWithin b.layout.cells i → IsAtSide b.layout axis high i → SeesBeyond b cells i axis high

abbrev pub SeesAround : FieldBlock → List ℕ → Type 0
SeesAround b cells = (axis : ℕ) (high : Bool) → axis < b.layout.dims → SeesBeyondSide b cells axis high

-- the totals around a face in the row of a cell, of the two cells below it and of the two above it; face 0 is the low side
abbrev pub looks_in_row : Layout → List ℕ → ℕ → ℕ → List ℕ → Looks
looks_in_row l cells axis face i = record {
  far_below = slice_index cells (row_place l axis face i);
  below = slice_index cells (row_place l axis (face + 1) i);
  above = slice_index cells (row_place l axis (face + 2) i);
  far_above = slice_index cells (row_place l axis (face + 3) i);
}

-- the lists of what passes the faces to the right and to the left have a pair at a face of a cell
abbrev pub HasPair : Layout → List ℕ → List ℕ → List ℕ → ℕ → Bool → Pair → Type 0
HasPair l right left i axis high x = (slice_index right (face_of l i axis high) ≡ x.right) × (slice_index left (face_of l i axis high) ≡ x.left)

-- the mesh's pair at a face of a cell of a block
abbrev pub pair_of : FieldBlock → List ℕ → ℕ → Bool → Pair
pair_of b i axis high = face_pair b.settings b.mesh b.field (cell_in b.mesh b.leaf i) axis high

-- whether finer cells are stored where a cell lies
abbrev pub is_finer_in : Mesh → Option Loc → Bool
is_finer_in m None = false
is_finer_in m (Some c) = is_inner m (block_of m c)

-- they have it at each face but those behind which finer cells are stored
abbrev pub HasOwnPairs : FieldBlock → List ℕ → List ℕ → Type 0
HasOwnPairs b right left = (i : List ℕ) (axis : ℕ) (high : Bool) → axis < b.layout.dims → IsWithin b.layout.cells i → is_finer_in b.mesh (cell_across b.mesh (cell_in b.mesh b.leaf i) axis high) ≡ false
    → HasPair b.layout right left i axis high (pair_of b i axis high)

-- they have the mesh's pairs at all faces of the block
abbrev pub HasPairs : FieldBlock → List ℕ → List ℕ → Type 0
HasPairs b right left = (i : List ℕ) (axis : ℕ) (high : Bool) → axis < b.layout.dims → IsWithin b.layout.cells i → HasPair b.layout right left i axis high (pair_of b i axis high)
