-- What stands in a region of a block, and beside it.
use Rattle.std.specs.Prelude.{◌≡◌, ◌≢◌, ℕ, List, slice_index}
use Rattle.block_layout.specs.declared.layout.Layout.{Layout}
use Rattle.block_layout.specs.Indices.{IsWithin, added}
use Rattle.block_layout.specs.Layouts.{place}
use Rattle.block_layout.specs.Regions.{Region}

-- where a cell of a region lies in the list of a block, by its index in the region
abbrev pub place_in : Layout → Region → List ℕ → ℕ
place_in l r i = place l (added r.low i)

-- the total in a cell of a region
abbrev pub cell_in : Layout → Region → List ℕ → List ℕ → ℕ
cell_in l r cells i = slice_index cells (place_in l r i)

-- each cell of a region has what its index in the region gives
abbrev pub HasRegion : Layout → Region → (List ℕ → ℕ) → List ℕ → Type 0
HasRegion l r each cells = (i : List ℕ) → IsWithin r.extents i → cell_in l r cells i ≡ each i

-- each place that no cell of a region has is as it was
abbrev pub StaysOffRegion : Layout → Region → List ℕ → List ℕ → Type 0
StaysOffRegion l r old new = (n : ℕ) → ((i : List ℕ) → IsWithin r.extents i → n ≢ place_in l r i) → slice_index new n ≡ slice_index old n
