-- The faces of a coarser block that a flux part corrects.
use Rattle.std.specs.Prelude.{◌≡◌, ◌≢◌, ℕ, ◌+◌, Bool, List, slice_index}
use Rattle.block_layout.specs.declared.layout.Layout.{Layout}
use Rattle.block_layout.specs.Indices.{IsWithin, added, number_of}
use Rattle.block_layout.specs.Faces.{face_number}
use Rattle.block_layout.specs.Regions.{Region, beside_part}
use Rattle.flux_correct.specs.Sums.{coarse_extents, flux_in, side_faces}

-- the faces at a side that a finer block covers
abbrev pub covered : Layout → ℕ → Bool → ℕ → Region
covered l axis high half = beside_part l axis half (side_faces l axis high)

-- each of them has its number of the part, of which those in this direction begin at a place; all other faces are as they were
pub record IsCorrected (l : Layout) (axis : ℕ) (high : Bool) (half from : ℕ) (part old new : List ℕ) : Type 0 where
  pub sums : (i : List ℕ) → IsWithin (coarse_extents l axis) i → flux_in l axis (covered l axis high half) new i ≡ slice_index part (from + number_of (coarse_extents l axis) i)
  pub others : (n : ℕ) → ((i : List ℕ) → IsWithin (coarse_extents l axis) i → n ≢ face_number l axis (added (covered l axis high half).low i)) → slice_index new n ≡ slice_index old n
