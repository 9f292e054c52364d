-- For the code: the boxes of parts, and what stands in them.
use Rattle.std.specs.Prelude.{◌≡◌, ℕ, List}
use Rattle.block_layout.specs.declared.layout.Layout.{Layout}
use Rattle.block_layout.specs.Indices.{IsWithin}
use Rattle.block_regions.specs.declared.regions.BlockRegion.{BlockRegion}
use Rattle.block_regions.specs.Boxes.{box_of}
use Rattle.block_regions.specs.Rows.{whole_box}
use Rattle.restrict_prolong.specs.Refined.{factors, refined}
use Rattle.restrict_prolong.specs.Boxes.{HasShares, HasSums, SumsBelow, at_box}
use Rattle.ghost_buffers.specs.declared.part.How.{How}
use Rattle.ghost_buffers.specs.declared.part.How.TheVariants.{Same, Finer, Coarser}

-- the extents of the cells that a part is made of, from those of the part
abbrev pub sent_extents : How → ℕ → List ℕ → List ℕ
sent_extents Same dims e = e
sent_extents Finer dims e = refined (factors dims) e
sent_extents Coarser dims e = e

-- and of the ghosts that it gives
abbrev pub received_extents : How → ℕ → List ℕ → List ℕ
received_extents Same dims e = e
received_extents Finer dims e = e
received_extents Coarser dims e = refined (factors dims) e

-- what a part of these extents is made of, as boxes
abbrev pub IsMadeBy : How → Layout → List ℕ → BlockRegion → List ℕ → List ℕ → Type 0
IsMadeBy Same l e b cells part = (i : List ℕ) → IsWithin e i → at_box part (whole_box e) i ≡ at_box cells (box_of l b.low) i
IsMadeBy Finer l e b cells part = HasSums (factors l.dims) e cells (box_of l b.low) part (whole_box e)
IsMadeBy Coarser l e b cells part = (i : List ℕ) → IsWithin e i → at_box part (whole_box e) i ≡ at_box cells (box_of l b.low) i

-- its sums are below a bound
abbrev pub MadeBelow : ℕ → How → Layout → List ℕ → BlockRegion → List ℕ → Type 0
MadeBelow bound Same l e b cells = Unit {0}
MadeBelow bound Finer l e b cells = SumsBelow bound (factors l.dims) e cells (box_of l b.low)
MadeBelow bound Coarser l e b cells = Unit {0}

-- what a part of these extents gives, as boxes
abbrev pub IsGivenBy : How → Layout → List ℕ → BlockRegion → List ℕ → List ℕ → Type 0
IsGivenBy Same l e b part cells = (i : List ℕ) → IsWithin e i → at_box cells (box_of l b.low) i ≡ at_box part (whole_box e) i
IsGivenBy Finer l e b part cells = (i : List ℕ) → IsWithin e i → at_box cells (box_of l b.low) i ≡ at_box part (whole_box e) i
IsGivenBy Coarser l e b part cells = HasShares l.dims (refined (factors l.dims) e) part (whole_box e) cells (box_of l b.low)
