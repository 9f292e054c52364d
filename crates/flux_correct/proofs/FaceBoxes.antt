-- The faces at a side as boxes of the list of faces.
use Rattle.std.proofs.Common.{◌≡◌, ℕ, zero, suc, ◌<◌, ◌≤◌, Bool, List, slice_index, refl, sym, subst, arith}
use Rattle.block_layout.specs.declared.layout.Layout.{Layout}
use Rattle.block_layout.specs.Sizes.{IsLayout}
use Rattle.block_layout.specs.Layouts.{cells_along}
use Rattle.block_layout.specs.Faces.{face_count, face_extents}
use Rattle.block_layout.specs.Regions.{Region, beside_part}
use Rattle.block_layout.proofs.Sizes.{cells_at_most}
use Rattle.block_layout.proofs.FaceNumbers.{faces_in_use, rising, whole_count}
use Rattle.cell_boxes.specs.declared.boxes.BoxIn.{BoxIn}
use Rattle.cell_boxes.specs.Boxes.{IsBoxIn}
use Rattle.block_regions.specs.declared.regions.BlockRegion.{BlockRegion}
use Rattle.block_regions.specs.Boxes.{AreFew, IsInside, IsRegion, region_of}
use Rattle.block_regions.proofs.InBlocks.{region_is}
use Rattle.restrict_prolong.specs.Refined.{refined}
use Rattle.restrict_prolong.specs.Boxes.{AreFactors}
use Rattle.restrict_prolong.proofs.Halves.{factor_least, factor_most, half_twice, same_three}
use Rattle.flux_correct.specs.Sums.{coarse_extents, face_factors, side_faces}
use Rattle.flux_correct.specs.Boxes.{LiesInFaces, faces_box}

-- one face or two in a coarser one along each axis
pub face_factors_are : (dims axis : ℕ) → axis < 3 → AreFactors (face_factors dims axis)
face_factors_are dims zero h = record { least1 = omega arith; most1 = omega arith; least2 = factor_least dims 1; most2 = factor_most dims 1; least3 = factor_least dims 2; most3 = factor_most dims 2 }
face_factors_are dims (suc zero) h = record { least1 = factor_least dims 0; most1 = factor_most dims 0; least2 = omega arith; most2 = omega arith; least3 = factor_least dims 2; most3 = factor_most dims 2 }
face_factors_are dims (suc (suc zero)) h = record { least1 = factor_least dims 0; most1 = factor_most dims 0; least2 = factor_least dims 1; most2 = factor_most dims 1; least3 = omega arith; most3 = omega arith }
face_factors_are dims (suc (suc (suc a))) h = absurd (omega arith)

-- the coarser faces, on the fine level, are those at the side
pub refined_faces : (l : Layout) (axis : ℕ) (high : Bool) → IsLayout l.dims l.cells → axis < l.dims → refined (face_factors l.dims axis) (coarse_extents l axis) ≡ (side_faces l axis high).extents
refined_faces l zero high s u = same_three _ _ _ 1 (cells_along l 1) (cells_along l 2) refl (half_twice l.dims 1 (cells_along l 1) s.cells2) (half_twice l.dims 2 (cells_along l 2) s.cells3)
refined_faces l (suc zero) high s u = same_three _ _ _ (cells_along l 0) 1 (cells_along l 2) (half_twice l.dims 0 (cells_along l 0) s.cells1) refl (half_twice l.dims 2 (cells_along l 2) s.cells3)
refined_faces l (suc (suc zero)) high s u = same_three _ _ _ (cells_along l 0) (cells_along l 1) 1 (half_twice l.dims 0 (cells_along l 0) s.cells1) (half_twice l.dims 1 (cells_along l 1) s.cells2) refl
refined_faces l (suc (suc (suc a))) high s u = absurd (omega (arith, s.most))

-- what lies among the faces of an axis is a box of the list
pub faces_fit : (l : Layout) (axis n : ℕ) (b : BlockRegion) → IsLayout l.dims l.cells → axis < l.dims → LiesInFaces l axis b → n ≡ face_count l → IsBoxIn b.extents (faces_box l axis b.low) n
faces_fit l axis n b s u lies e =
    record {
      along1 = lies.along1;
      along2 = lies.along2;
      along3 = lies.along3;
      within = omega (arith, e, faces_in_use l axis u, rising l axis 3 (omega (arith, s.most)), whole_count l);
    }

-- and as a box of such extents
pub faces_fit_as : (l : Layout) (axis n : ℕ) (b : BlockRegion) (e : List ℕ) (x : BoxIn) → IsLayout l.dims l.cells → axis < l.dims → LiesInFaces l axis b → n ≡ face_count l → b.extents ≡ e → x ≡ faces_box l axis b.low → IsBoxIn e x n
faces_fit_as l axis n b e x s u lies is p q =
    subst (λ (y : BoxIn). IsBoxIn e y n) (sym q) (subst (λ (v : List ℕ). IsBoxIn v (faces_box l axis b.low) n) p (faces_fit l axis n b s u lies is))

face_extent_most : (l : Layout) (axis along : ℕ) → IsLayout l.dims l.cells → axis < 3 → along < 3 → slice_index (face_extents l axis) along ≤ 65
face_extent_most l axis along s h k = by axis along h k (cells_at_most l 0 s (omega arith)) (cells_at_most l 1 s (omega arith)) (cells_at_most l 2 s (omega arith))
  where
    by : (a b : ℕ) → a < 3 → b < 3 → cells_along l 0 ≤ 64 → cells_along l 1 ≤ 64 → cells_along l 2 ≤ 64 → slice_index (face_extents l a) b ≤ 65
    by zero zero h k x y z = omega arith
    by zero (suc zero) h k x y z = omega arith
    by zero (suc (suc zero)) h k x y z = omega arith
    by (suc zero) zero h k x y z = omega arith
    by (suc zero) (suc zero) h k x y z = omega arith
    by (suc zero) (suc (suc zero)) h k x y z = omega arith
    by (suc (suc zero)) zero h k x y z = omega arith
    by (suc (suc zero)) (suc zero) h k x y z = omega arith
    by (suc (suc zero)) (suc (suc zero)) h k x y z = omega arith
    by (suc (suc (suc a))) b h k x y z = absurd (omega arith)
    by zero (suc (suc (suc b))) h k x y z = absurd (omega arith)
    by (suc zero) (suc (suc (suc b))) h k x y z = absurd (omega arith)
    by (suc (suc zero)) (suc (suc (suc b))) h k x y z = absurd (omega arith)

pub few_faces : (l : Layout) (axis : ℕ) (b : BlockRegion) → IsLayout l.dims l.cells → axis < l.dims → LiesInFaces l axis b → AreFew b.extents
few_faces l axis b s u lies =
    let h : axis < 3 = omega (arith, s.most) in
    record {
      along1 = omega (arith, lies.along1, face_extent_most l axis 0 s h (omega arith));
      along2 = omega (arith, lies.along2, face_extent_most l axis 1 s h (omega arith));
      along3 = omega (arith, lies.along3, face_extent_most l axis 2 s h (omega arith));
    }

-- a region among them has its parts among them
pub inside_faces : (l : Layout) (axis : ℕ) (outer inner : BlockRegion) → LiesInFaces l axis outer → IsInside outer inner → LiesInFaces l axis inner
inside_faces l axis outer inner lies is =
    record { along1 = omega (arith, is.along1, lies.along1); along2 = omega (arith, is.along2, lies.along2); along3 = omega (arith, is.along3, lies.along3) }

pub beside_is : (l : Layout) (axis half : ℕ) (r : Region) (b x : BlockRegion) → IsRegion r b → IsRegion (beside_part l axis half (region_of b)) x → IsRegion (beside_part l axis half r) x
beside_is l axis half r b x is part = subst (λ (q : Region). IsRegion (beside_part l axis half q) x) (region_is r b is) part
