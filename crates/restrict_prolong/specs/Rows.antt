-- For the code: rows of boxes, and the numbers along them.
use Rattle.std.specs.Prelude.{◌≡◌, ℕ, ◌+◌, ◌*◌, ◌<◌, ◌≤◌, ◌^◌, List, [], ◌∷◌, length, slice_index}
use Rattle.mesh_rules.specs.Sums.{sum_to}
use Rattle.cell_boxes.specs.Boxes.{HasCells, IsBoxIn}
use Rattle.block_regions.specs.Rows.{IsRowOf}
use Rattle.restrict_prolong.specs.Refined.{factors, refined}
use Rattle.restrict_prolong.specs.Boxes.{AreFactors, SumsBelow, at_box}
use Rattle.restrict_prolong.specs.declared.sums.Sums.{Sums}
use Rattle.restrict_prolong.specs.declared.shares.Shares.{Shares}

-- the sum of the factor numbers of a fine row in the place of one of a coarse row
abbrev pub row_sum : ℕ → List ℕ → ℕ → ℕ
row_sum f0 from x = sum_to f0 (λ a. slice_index from (f0 * x + a))

-- a coarse row with the sums of a fine one added
abbrev pub AddsRow : ℕ → List ℕ → List ℕ → List ℕ → Type 0
AddsRow f0 from old new = (x : ℕ) → x < length old → slice_index new x ≡ slice_index old x + row_sum f0 from x

-- each number of such a row stays below a bound
abbrev pub RowBelow : ℕ → ℕ → List ℕ → List ℕ → Type 0
RowBelow bound f0 from old = (x : ℕ) → x < length old → slice_index old x + row_sum f0 from x < bound

-- the sum over the fine cells in a coarse one, axis by axis: along x1, then along x2, then along x3
abbrev pub sum_along1 : Sums → List ℕ → ℕ → ℕ → ℕ → ℕ
sum_along1 s from x y z = sum_to (slice_index s.factors 0) (λ a. at_box from s.from_box ((slice_index s.factors 0 * x + a) ∷ y ∷ z ∷ []))

abbrev pub sum_along2 : Sums → List ℕ → ℕ → ℕ → ℕ → ℕ
sum_along2 s from x row z = sum_to (slice_index s.factors 1) (λ b. sum_along1 s from x (slice_index s.factors 1 * row + b) z)

abbrev pub sum_along3 : Sums → List ℕ → ℕ → ℕ → ℕ → ℕ
sum_along3 s from x row plane = sum_to (slice_index s.factors 2) (λ c. sum_along2 s from x row (slice_index s.factors 2 * plane + c))

-- what is asked for sums
pub record AreSums (s : Sums) (from : List ℕ) (len : ℕ) : Type 0 where
  pub cells : HasCells s.extents
  pub factors : AreFactors s.factors
  pub fine : s.fine ≡ refined s.factors s.extents
  pub lies : IsBoxIn s.fine s.from_box (length from)
  pub whole : len ≡ slice_index s.extents 0

-- and for a row of them
pub record IsSumRow (s : Sums) (from : List ℕ) (len row plane : ℕ) : Type 0 where
  pub sums : AreSums s from len
  pub lies_in : IsRowOf s.extents row plane
  pub small : SumsBelow (2 ^ 64) s.factors s.extents from s.from_box

-- a row with the sums of a fine plane added
abbrev pub AddsPlane : Sums → List ℕ → ℕ → ℕ → List ℕ → List ℕ → Type 0
AddsPlane s from row z old new = (x : ℕ) → x < length old → slice_index new x ≡ slice_index old x + sum_along2 s from x row z

abbrev pub PlaneBelow : ℕ → Sums → List ℕ → ℕ → ℕ → List ℕ → Type 0
PlaneBelow bound s from row z old = (x : ℕ) → x < length old → slice_index old x + sum_along2 s from x row z < bound

-- what is asked for a row of shares
pub record IsShareRow (s : Shares) (from : List ℕ) (len row plane : ℕ) : Type 0 where
  pub least : 1 ≤ s.dims
  pub most : s.dims ≤ 3
  pub cells : HasCells s.coarse
  pub lies : IsBoxIn s.coarse s.from_box (length from)
  pub whole : len ≡ 2 * slice_index s.coarse 0
  pub lies_in : IsRowOf (refined (factors s.dims) s.coarse) row plane
