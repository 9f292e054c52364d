-- The extents of parts, and of what they are made of and give.
use Rattle.std.proofs.Common.{◌≡◌, ℕ, zero, suc, ◌*◌, ◌<◌, ap, subst, arith}
use Rattle.block_layout.specs.declared.layout.Layout.{Layout}
use Rattle.block_layout.specs.Sizes.{IsLayout}
use Rattle.block_layout.specs.Indices.{with_along}
use Rattle.block_layout.specs.Layouts.{cells_along}
use Rattle.block_layout.specs.Regions.{Region, beside_part, layers}
use Rattle.block_regions.specs.declared.regions.BlockRegion.{BlockRegion}
use Rattle.block_regions.specs.Boxes.{IsRegion, region_of}
use Rattle.block_regions.proofs.InBlocks.{region_is}
use Rattle.restrict_prolong.proofs.Halves.{factor_in_use, half_twice, same_three}
use Rattle.restrict_prolong.specs.Refined.{factors, refined}
use Rattle.ghost_buffers.specs.declared.part.How.TheVariants.{Finer, Coarser}
use Rattle.ghost_buffers.specs.Parts.{part_extents}

-- the layers beside half of a side, on the fine level, are as many cells as a whole side has, in twice as many layers
pub refined_halves : (l : Layout) (axis depth : ℕ) → IsLayout l.dims l.cells → axis < l.dims → refined (factors l.dims) (beside_part l axis 0 (layers l axis 0 depth)).extents ≡ with_along axis (2 * depth) l.cells
refined_halves l zero depth s u =
    same_three _ _ _ (2 * depth) (cells_along l 1) (cells_along l 2) (ap (λ (f : ℕ). f * depth) (factor_in_use l.dims 0 u)) (half_twice l.dims 1 (cells_along l 1) s.cells2) (half_twice l.dims 2 (cells_along l 2) s.cells3)
refined_halves l (suc zero) depth s u =
    same_three _ _ _ (cells_along l 0) (2 * depth) (cells_along l 2) (half_twice l.dims 0 (cells_along l 0) s.cells1) (ap (λ (f : ℕ). f * depth) (factor_in_use l.dims 1 u)) (half_twice l.dims 2 (cells_along l 2) s.cells3)
refined_halves l (suc (suc zero)) depth s u =
    same_three _ _ _ (cells_along l 0) (cells_along l 1) (2 * depth) (half_twice l.dims 0 (cells_along l 0) s.cells1) (half_twice l.dims 1 (cells_along l 1) s.cells2) (ap (λ (f : ℕ). f * depth) (factor_in_use l.dims 2 u))
refined_halves l (suc (suc (suc a))) depth s u = absurd (omega (arith, s.most))

pub refined_finer : (l : Layout) (axis : ℕ) → IsLayout l.dims l.cells → axis < l.dims → refined (factors l.dims) (part_extents Finer l axis) ≡ with_along axis 4 l.cells
refined_finer l axis s u = refined_halves l axis 2 s u

pub refined_coarser : (l : Layout) (axis : ℕ) → IsLayout l.dims l.cells → axis < l.dims → refined (factors l.dims) (part_extents Coarser l axis) ≡ with_along axis 2 l.cells
refined_coarser l axis s u = refined_halves l axis 1 s u

-- the part of a region of the code's is the part of the region of the definitions
pub beside_is : (l : Layout) (axis half : ℕ) (r : Region) (b x : BlockRegion) → IsRegion r b → IsRegion (beside_part l axis half (region_of b)) x → IsRegion (beside_part l axis half r) x
beside_is l axis half r b x is part = subst (λ (q : Region). IsRegion (beside_part l axis half q) x) (region_is r b is) part
