-- What holds of indices, cells and faces of a block.
use Rattle.std.specs.Prelude.{◌≡◌, ℕ, ◌<◌, ◌≤◌, List, Bool, slice_index}
use Rattle.block_layout.specs.declared.layout.Layout.{Layout}
use Rattle.block_layout.specs.Sizes.{IsLayout}
use Rattle.block_layout.specs.Indices.{IsWithin, count_of, index_of, number_of}
use Rattle.block_layout.specs.Layouts.{widths}
use Rattle.block_layout.specs.Regions.{Region, cell_index, ghosts, inner_layers, interior, size_of}
use Rattle.block_layout.specs.Faces.{face_count, face_extents, face_number}

-- two indices are one
pub record IsSame (i j : List ℕ) : Type 0 where
  pub along1 : slice_index i 0 ≡ slice_index j 0
  pub along2 : slice_index i 1 ≡ slice_index j 1
  pub along3 : slice_index i 2 ≡ slice_index j 2

-- a box of n cells has the numbers below n, each at one index
pub record NumbersAreIndices : Type 0 where
  pub bound : (n i : List ℕ) → IsWithin n i → number_of n i < count_of n
  pub within : (n : List ℕ) (k : ℕ) → k < count_of n → IsWithin n (index_of n k)
  pub number : (n : List ℕ) (k : ℕ) → k < count_of n → number_of n (index_of n k) ≡ k
  pub index : (n i : List ℕ) → IsWithin n i → IsSame (index_of n (number_of n i)) i

-- a box lies in a block with its ghosts
abbrev pub LiesIn : Layout → Region → Type 0
LiesIn l r = (k : ℕ) → k < size_of r → IsWithin (widths l) (cell_index r k)

-- the interior, the ghosts next to a side, and layers of the interior next to a side, no more than there are, lie in the block
pub record RegionsLieIn : Type 0 where
  pub interior : (l : Layout) → IsLayout l.dims l.cells → LiesIn l (interior l)
  pub ghosts : (l : Layout) (axis : ℕ) (high : Bool) → IsLayout l.dims l.cells → axis < l.dims → LiesIn l (ghosts l axis high)
  pub layers : (l : Layout) (axis : ℕ) (high : Bool) (depth : ℕ) → IsLayout l.dims l.cells → axis < l.dims → depth ≤ slice_index l.cells axis → LiesIn l (inner_layers l axis high depth)

-- each face of an axis in use has a number below the number of faces, and no other face has it
pub record FacesAreNumbered : Type 0 where
  pub bound : (l : Layout) (axis : ℕ) (i : List ℕ) → IsLayout l.dims l.cells → axis < l.dims → IsWithin (face_extents l axis) i → face_number l axis i < face_count l
  pub same_axis : (l : Layout) (a b : ℕ) (i j : List ℕ) → IsLayout l.dims l.cells → a < l.dims → b < l.dims → IsWithin (face_extents l a) i → IsWithin (face_extents l b) j → face_number l a i ≡ face_number l b j → a ≡ b
  pub same_index : (l : Layout) (a : ℕ) (i j : List ℕ) → IsLayout l.dims l.cells → a < l.dims → IsWithin (face_extents l a) i → IsWithin (face_extents l a) j → face_number l a i ≡ face_number l a j → IsSame i j
