-- Sums of finer faces, and coarser faces that have them.
use Rattle.std.proofs.Common.{◌≡◌, ℕ, ◌+◌, ◌<◌, ◌≤◌, ◌^◌, Bool, List, length, take, drop, get_or, slice_index, sym, ◌∙◌, ap, subst, zero-add, arith}
use Rattle.std.proofs.lemmas.List.{get_or-drop, get_or-take}
use Rattle.std.proofs.lemmas.Grind.{get_or_default_zero}
use Rattle.block_layout.specs.declared.layout.Layout.{Layout}
use Rattle.block_layout.specs.Indices.{IsWithin, added, count_of, number_of}
use Rattle.block_layout.specs.Faces.{face_number}
use Rattle.block_layout.specs.Regions.{Region}
use Rattle.block_layout.proofs.Boxes.{number_bound}
use Rattle.cell_boxes.specs.declared.boxes.BoxIn.{BoxIn}
use Rattle.cell_boxes.specs.Boxes.{StaysOffBox, address}
use Rattle.block_regions.specs.declared.regions.BlockRegion.{BlockRegion}
use Rattle.block_regions.specs.Boxes.{IsRegion}
use Rattle.block_regions.specs.Rows.{whole_box}
use Rattle.restrict_prolong.specs.Refined.{part_index, sum_in}
use Rattle.restrict_prolong.specs.Boxes.{HasSums, at_box}
use Rattle.restrict_prolong.proofs.SumSteps.{sum_same}
use Rattle.restrict_prolong.proofs.Wholes.{from_whole, whole_address}
use Rattle.flux_correct.specs.Sums.{coarse_extents, face_factors, flux_in, flux_sum, flux_sums, side_faces}
use Rattle.flux_correct.specs.Corrected.{IsCorrected, covered}
use Rattle.flux_correct.specs.Boxes.{SumsBelow, faces_box}

flux_at_box : (l : Layout) (axis : ℕ) (r : Region) (low list i : List ℕ) → low ≡ r.low → at_box list (faces_box l axis low) i ≡ flux_in l axis r list i
flux_at_box l axis r low list i is = ap (λ (v : List ℕ). slice_index list (face_number l axis (added v i))) is

flux_sum_of_box : (f : List ℕ) (l : Layout) (axis : ℕ) (r : Region) (low list i : List ℕ) → low ≡ r.low → sum_in f (at_box list (faces_box l axis low)) i ≡ sum_in f (flux_in l axis r list) i
flux_sum_of_box f l axis r low list i is = sum_same (count_of f) (λ j. at_box list (faces_box l axis low) (part_index f i j)) (λ j. flux_in l axis r list (part_index f i j)) (λ j h. flux_at_box l axis r low list (part_index f i j) is)

pub sums_small : (l : Layout) (axis : ℕ) (high : Bool) (list e each low : List ℕ) (from : BoxIn) → e ≡ coarse_extents l axis → each ≡ face_factors l.dims axis → low ≡ (side_faces l axis high).low → from ≡ faces_box l axis low → SumsBelow (2 ^ 64) l axis high list
    → (i : List ℕ) → IsWithin e i → sum_in each (at_box list from) i < 2 ^ 64
sums_small l axis high list e each low from p q is r small i w =
    subst (λ (f : List ℕ). sum_in f (at_box list from) i < 2 ^ 64) (sym q)
    (subst (λ (b : BoxIn). sum_in (face_factors l.dims axis) (at_box list b) i < 2 ^ 64) (sym r)
    (subst (λ (v : ℕ). v < 2 ^ 64) (sym (flux_sum_of_box (face_factors l.dims axis) l axis (side_faces l axis high) low list i is)) (small i (subst (λ (v : List ℕ). IsWithin v i) p w))))

gathered_by : (l : Layout) (axis : ℕ) (high : Bool) (list new low : List ℕ) → low ≡ (side_faces l axis high).low → length new ≡ count_of (coarse_extents l axis)
    → HasSums (face_factors l.dims axis) (coarse_extents l axis) list (faces_box l axis low) new (whole_box (coarse_extents l axis)) → new ≡ flux_sums l axis high list
gathered_by l axis high list new low is len has =
    from_whole (coarse_extents l axis) (flux_sum l axis high list) new len (λ i w. has i w ∙ flux_sum_of_box (face_factors l.dims axis) l axis (side_faces l axis high) low list i is)

pub gathered : (l : Layout) (axis : ℕ) (high : Bool) (list new e each low : List ℕ) (from into : BoxIn) → e ≡ coarse_extents l axis → each ≡ face_factors l.dims axis → low ≡ (side_faces l axis high).low → from ≡ faces_box l axis low → into ≡ whole_box e
    → length new ≡ count_of (coarse_extents l axis) → HasSums each e list from new into → new ≡ flux_sums l axis high list
gathered l axis high list new e each low from into p q is r t len has =
    gathered_by l axis high list new low is len
    (subst (λ (v : List ℕ). HasSums (face_factors l.dims axis) v list (faces_box l axis low) new (whole_box v)) p
    (subst (λ (b : BoxIn). HasSums (face_factors l.dims axis) e list (faces_box l axis low) new b) t
    (subst (λ (b : BoxIn). HasSums (face_factors l.dims axis) e list b new into) r
    (subst (λ (f : List ℕ). HasSums f e list from new into) q has))))

corrected_by : (l : Layout) (axis : ℕ) (high : Bool) (half : ℕ) (sums old new : List ℕ) (b : BlockRegion) → IsRegion (covered l axis high half) b
    → ((i : List ℕ) → IsWithin (coarse_extents l axis) i → slice_index new (address (faces_box l axis b.low) i) ≡ slice_index sums (address (whole_box (coarse_extents l axis)) i))
    → StaysOffBox (coarse_extents l axis) (faces_box l axis b.low) old new → IsCorrected l axis high half 0 sums old new
corrected_by l axis high half sums old new b is inside outside =
    record {
      sums = λ i w. sym (flux_at_box l axis (covered l axis high half) b.low new i is.low) ∙ inside i w ∙ ap (slice_index sums) (whole_address (coarse_extents l axis) i ∙ sym (zero-add (number_of (coarse_extents l axis) i)));
      others = λ n off. outside n (λ i w e. off i w (e ∙ ap (λ (v : List ℕ). face_number l axis (added v i)) is.low));
    }

pub corrected : (l : Layout) (axis : ℕ) (high : Bool) (half : ℕ) (sums old new e : List ℕ) (b : BlockRegion) (from into : BoxIn) → e ≡ coarse_extents l axis → IsRegion (covered l axis high half) b → from ≡ whole_box e → into ≡ faces_box l axis b.low
    → ((i : List ℕ) → IsWithin e i → slice_index new (address into i) ≡ slice_index sums (address from i)) → StaysOffBox e into old new → IsCorrected l axis high half 0 sums old new
corrected l axis high half sums old new e b from into p is q r inside outside =
    corrected_by l axis high half sums old new b is
    (subst (λ (v : List ℕ). (i : List ℕ) → IsWithin v i → slice_index new (address (faces_box l axis b.low) i) ≡ slice_index sums (address (whole_box v) i)) p
    (subst (λ (x : BoxIn). (i : List ℕ) → IsWithin e i → slice_index new (address (faces_box l axis b.low) i) ≡ slice_index sums (address x i)) q
    (subst (λ (x : BoxIn). (i : List ℕ) → IsWithin e i → slice_index new (address x i) ≡ slice_index sums (address from i)) r inside)))
    (subst (λ (v : List ℕ). StaysOffBox v (faces_box l axis b.low) old new) p (subst (λ (x : BoxIn). StaysOffBox e x old new) r outside))

-- the sums of a part are those of its half
pub corrected_from : (l : Layout) (axis : ℕ) (high : Bool) (half from : ℕ) (sums part old new : List ℕ)
    → ((k : ℕ) → k < count_of (coarse_extents l axis) → get_or sums k 0 ≡ get_or part (from + k) 0) → IsCorrected l axis high half 0 sums old new → IsCorrected l axis high half from part old new
corrected_from l axis high half from sums part old new same is =
    record {
      sums = λ i w. is.sums i w ∙ ap (slice_index sums) (zero-add (number_of (coarse_extents l axis) i)) ∙ same (number_of (coarse_extents l axis) i) (number_bound (coarse_extents l axis) i w);
      others = is.others;
    }

-- the same for the first numbers of a part
pub corrected_front : (l : Layout) (axis : ℕ) (high : Bool) (half n : ℕ) (sums part old new : List ℕ) → n ≡ count_of (coarse_extents l axis) → sums ≡ take n part → IsCorrected l axis high half 0 sums old new → IsCorrected l axis high half 0 part old new
corrected_front l axis high half n sums part old new p q is =
    corrected_from l axis high half 0 sums part old new (λ k h. ap (λ (v : List ℕ). get_or v k 0) q ∙ get_or-take n part k 0 (subst (λ (m : ℕ). k < m) (sym p) h) ∙ ap (λ (m : ℕ). get_or part m 0) (sym (zero-add k))) is

-- and for those from a place on
pub corrected_back : (l : Layout) (axis : ℕ) (high : Bool) (half n : ℕ) (sums part old new : List ℕ) → n ≡ count_of (coarse_extents l axis) → sums ≡ drop n part → IsCorrected l axis high half 0 sums old new
    → IsCorrected l axis high half (count_of (coarse_extents l axis)) part old new
corrected_back l axis high half n sums part old new p q is =
    corrected_from l axis high half (count_of (coarse_extents l axis)) sums part old new (λ k h. ap (λ (v : List ℕ). get_or v k 0) q ∙ get_or-drop n part k 0 ∙ ap (λ (m : ℕ). get_or part (m + k) 0) p) is

-- no number of a list of 64 bits is above the greatest
pub read_most : (sums : List ℕ) → ((k : ℕ) → slice_index sums k < 2 ^ 64) → (k d : ℕ) → k < length sums → get_or sums k d ≤ 18446744073709551615
read_most sums fits k d h = subst (λ (v : ℕ). v ≤ 18446744073709551615) (sym (get_or_default_zero sums k d h)) (omega (arith, fits k))
