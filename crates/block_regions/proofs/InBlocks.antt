-- Regions of a block as boxes of its list.
use Rattle.std.proofs.Common.{◌≡◌, ℕ, ◌<◌, ◌≤◌, List, slice_index, sym, ◌∙◌, ap, subst, zero-add, arith}
use Rattle.block_layout.specs.declared.layout.Layout.{Layout}
use Rattle.block_layout.specs.Indices.{IsWithin, added, number_of}
use Rattle.block_layout.specs.Layouts.{len, widths}
use Rattle.block_layout.specs.Regions.{Region}
use Rattle.block_layout.specs.Sizes.{IsLayout}
use Rattle.block_layout.specs.Layouts.{ghost_layers, width}
use Rattle.block_layout.proofs.Sizes.{cells_at_most}
use Rattle.std.proofs.lemmas.Bool.Decides.{nat_tests}
use Rattle.cell_boxes.specs.Boxes.{IsBoxIn, StaysOffBox, address}
use Rattle.block_regions.specs.declared.regions.BlockRegion.{BlockRegion}
use Rattle.block_regions.specs.Boxes.{AreFew, IsInside, IsRegion, LiesInBlock, box_of, region_of}
use Rattle.block_regions.specs.Written.{HasRegion, StaysOffRegion, place_in}

-- the place of an index of a region
pub region_address : (l : Layout) (r : Region) (b : BlockRegion) (i : List ℕ) → IsRegion r b → address (box_of l b.low) i ≡ place_in l r i
region_address l r b i is = zero-add (number_of (widths l) (added b.low i)) ∙ ap (λ (low : List ℕ). number_of (widths l) (added low i)) is.low

-- a region that lies in a block is a box in its list
pub region_fits : (l : Layout) (b : BlockRegion) (n : ℕ) → LiesInBlock l b → n ≡ len l → IsBoxIn b.extents (box_of l b.low) n
region_fits l b n lies e = record { along1 = lies.along1; along2 = lies.along2; along3 = lies.along3; within = omega (arith, e) }

-- what was written at the addresses of the box stands in the region
pub has_region : (l : Layout) (r : Region) (b : BlockRegion) (each : List ℕ → ℕ) (new : List ℕ) → IsRegion r b → ((i : List ℕ) → IsWithin b.extents i → slice_index new (address (box_of l b.low) i) ≡ each i) → HasRegion l r each new
has_region l r b each new is h = λ i w. ap (slice_index new) (sym (region_address l r b i is)) ∙ h i (subst (λ (e : List ℕ). IsWithin e i) (sym is.extents) w)

-- and all else stays
pub stays_off_region : (l : Layout) (r : Region) (b : BlockRegion) (old new : List ℕ) → IsRegion r b → StaysOffBox b.extents (box_of l b.low) old new → StaysOffRegion l r old new
stays_off_region l r b old new is h = λ n off. h n (λ i w e. off i (subst (λ (v : List ℕ). IsWithin v i) is.extents w) (e ∙ region_address l r b i is))

-- a region in one that lies in a block lies in it too
pub inside_lies : (l : Layout) (outer inner : BlockRegion) → LiesInBlock l outer → IsInside outer inner → LiesInBlock l inner
inside_lies l outer inner lies is =
    record { cells = is.cells; along1 = omega (arith, is.along1, lies.along1); along2 = omega (arith, is.along2, lies.along2); along3 = omega (arith, is.along3, lies.along3) }

two_at_most : (l : Layout) (axis : ℕ) → ghost_layers l axis ≤ 2
two_at_most l axis = grind (arith, nat_tests)

width_at_most : (l : Layout) (axis : ℕ) → IsLayout l.dims l.cells → axis < 3 → width l axis ≤ 68
width_at_most l axis s h = omega (arith, cells_at_most l axis s h, two_at_most l axis)

-- a region of a block has few cells along each axis
pub few_cells : (l : Layout) (b : BlockRegion) → IsLayout l.dims l.cells → LiesInBlock l b → AreFew b.extents
few_cells l b s lies =
    record {
      along1 = omega (arith, lies.along1, width_at_most l 0 s (omega arith));
      along2 = omega (arith, lies.along2, width_at_most l 1 s (omega arith));
      along3 = omega (arith, lies.along3, width_at_most l 2 s (omega arith));
    }

-- the code's region is the one of the definitions
pub region_is : (r : Region) (b : BlockRegion) → IsRegion r b → region_of b ≡ r
region_is r b is =
    let made : List ℕ → List ℕ → Region = λ low extents. record { low = low; extents = extents } in
    ap (λ (low : List ℕ). made low b.extents) is.low ∙ ap (made r.low) is.extents
