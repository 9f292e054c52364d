-- What a finer block sends for the faces of its coarser neighbour.
use Rattle.std.specs.Prelude.{ℕ, Bool, false, cond, List, [], ◌∷◌, ◌++◌, slice_index}
use Rattle.block_layout.specs.declared.layout.Layout.{Layout}
use Rattle.block_layout.specs.Indices.{added, count_of, index_of, with_along}
use Rattle.block_layout.specs.Layouts.{cells_along}
use Rattle.block_layout.specs.Faces.{face_number}
use Rattle.block_layout.specs.Regions.{Region, beside_part}
use Rattle.mesh_rules.specs.Sums.{table}
use Rattle.restrict_prolong.specs.Refined.{factors, sum_in}

-- the faces at a side of a block, as a box of the faces of its axis
abbrev pub side_faces : Layout → ℕ → Bool → Region
side_faces l axis high = record {
  low = with_along axis (cond high (cells_along l axis) 0) (0 ∷ 0 ∷ 0 ∷ []);
  extents = with_along axis 1 l.cells;
}

-- what passes a face of a box of the faces of an axis, by its index in the box
abbrev pub flux_in : Layout → ℕ → Region → List ℕ → List ℕ → ℕ
flux_in l axis r list i = slice_index list (face_number l axis (added r.low i))

-- how many faces of the finer block make one of the coarser along each axis
abbrev pub face_factors : ℕ → ℕ → List ℕ
face_factors dims axis = with_along axis 1 (factors dims)

-- the coarser faces along each axis that a finer block sends sums for
abbrev pub coarse_extents : Layout → ℕ → List ℕ
coarse_extents l axis = (beside_part l axis 0 (side_faces l axis false)).extents

-- the sum for one of them
abbrev pub flux_sum : Layout → ℕ → Bool → List ℕ → List ℕ → ℕ
flux_sum l axis high list i = sum_in (face_factors l.dims axis) (flux_in l axis (side_faces l axis high) list) i

-- the sums of what passes in one direction, x1 fastest
abbrev pub flux_sums : Layout → ℕ → Bool → List ℕ → List ℕ
flux_sums l axis high list = table (count_of (coarse_extents l axis)) (λ k. flux_sum l axis high list (index_of (coarse_extents l axis) k))

-- a flux part: all sums to the right, then all sums to the left
abbrev pub flux_part : Layout → ℕ → Bool → List ℕ → List ℕ → List ℕ
flux_part l axis high right left = flux_sums l axis high right ++ flux_sums l axis high left
