-- For the code: the faces at a side as boxes of the list of faces.
use Rattle.std.specs.Prelude.{ℕ, ◌+◌, ◌<◌, ◌≤◌, Bool, List, slice_index}
use Rattle.block_layout.specs.declared.layout.Layout.{Layout}
use Rattle.block_layout.specs.Indices.{IsWithin}
use Rattle.block_layout.specs.Faces.{face_extents, first_face}
use Rattle.cell_boxes.specs.declared.boxes.BoxIn.{BoxIn}
use Rattle.block_regions.specs.declared.regions.BlockRegion.{BlockRegion}
use Rattle.flux_correct.specs.Sums.{coarse_extents, flux_sum}

-- the faces of an axis, from an index on
abbrev pub faces_box : Layout → ℕ → List ℕ → BoxIn
faces_box l axis low = record { first = first_face l axis; widths = face_extents l axis; low = low }

-- a region lies among the faces of an axis
pub record LiesInFaces (l : Layout) (axis : ℕ) (b : BlockRegion) : Type 0 where
  pub along1 : slice_index b.low 0 + slice_index b.extents 0 ≤ slice_index (face_extents l axis) 0
  pub along2 : slice_index b.low 1 + slice_index b.extents 1 ≤ slice_index (face_extents l axis) 1
  pub along3 : slice_index b.low 2 + slice_index b.extents 2 ≤ slice_index (face_extents l axis) 2

-- the sums for the faces of a coarser block are below a bound
abbrev pub SumsBelow : ℕ → Layout → ℕ → Bool → List ℕ → Type 0
SumsBelow bound l axis high list = (i : List ℕ) → IsWithin (coarse_extents l axis) i → flux_sum l axis high list i < bound
