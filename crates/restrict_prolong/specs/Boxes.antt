-- Sums and shares between boxes.
use Rattle.std.specs.Prelude.{◌≡◌, ℕ, ◌<◌, ◌≤◌, List, slice_index}
use Rattle.block_layout.specs.Indices.{IsWithin}
use Rattle.cell_boxes.specs.declared.boxes.BoxIn.{BoxIn}
use Rattle.cell_boxes.specs.Boxes.{address}
use Rattle.restrict_prolong.specs.Refined.{factors, share_in, sum_in}

-- the number at an index of a box in a list
abbrev pub at_box : List ℕ → BoxIn → List ℕ → ℕ
at_box list b i = slice_index list (address b i)

-- one fine cell or two in a coarse one along each axis
pub record AreFactors (f : List ℕ) : Type 0 where
  pub least1 : 1 ≤ slice_index f 0
  pub most1 : slice_index f 0 ≤ 2
  pub least2 : 1 ≤ slice_index f 1
  pub most2 : slice_index f 1 ≤ 2
  pub least3 : 1 ≤ slice_index f 2
  pub most3 : slice_index f 2 ≤ 2

-- the sums of what stands in a box of fine cells are below a bound
abbrev pub SumsBelow : ℕ → List ℕ → List ℕ → List ℕ → BoxIn → Type 0
SumsBelow bound f extents fine b = (i : List ℕ) → IsWithin extents i → sum_in f (at_box fine b) i < bound

-- each coarse cell of a box has the sum over the fine cells in it
abbrev pub HasSums : List ℕ → List ℕ → List ℕ → BoxIn → List ℕ → BoxIn → Type 0
HasSums f extents fine from coarse into = (i : List ℕ) → IsWithin extents i → at_box coarse into i ≡ sum_in f (at_box fine from) i

-- each fine cell of a box has its share of the coarse one that it lies in
abbrev pub HasShares : ℕ → List ℕ → List ℕ → BoxIn → List ℕ → BoxIn → Type 0
HasShares dims extents coarse from fine into = (p : List ℕ) → IsWithin extents p → at_box fine into p ≡ share_in (factors dims) (at_box coarse from) p
