-- The numbers of a flux part, and the sums behind the faces that they are for.
use Rattle.std.proofs.Common.{◌≡◌, ℕ, ◌+◌, ◌<◌, ◌≤◌, Bool, true, false, cond, not, List, length, arith, ap, sym, ◌∙◌, slice_index, zero-add}
use Rattle.std.proofs.lemmas.List.{get_or-append-add, get_or_append_left}
use Rattle.std.proofs.lemmas.List.FromFn.{get_or-map-range_with_len, length-map-range_with_len}
use Rattle.block_tree.specs.Behind.{children_at, is_high_half}
use Rattle.mesh_rules.specs.Sums.{sum_over}
use Rattle.mesh_rules.specs.Mesh.{Mesh}
use Rattle.block_layout.specs.declared.layout.Layout.{Layout}
use Rattle.block_layout.specs.Indices.{added, count_of, index_of, number_of}
use Rattle.block_layout.specs.Layouts.{cells_along}
use Rattle.block_layout.specs.Faces.{face_number, face_of}
use Rattle.block_layout.proofs.Boxes.{number_bound}
use Rattle.block_geometry.specs.Blocks.{end_of}
use Rattle.ghost_laws.specs.Layers.{across_index}
use Rattle.ghost_laws.specs.Refined.{finer_index}
use Rattle.restrict_prolong.specs.Refined.{part_index}
use Rattle.restrict_prolong.proofs.SumSteps.{sum_same}
use Rattle.flux_correct.specs.Sums.{coarse_extents, face_factors, flux_part, flux_sum, flux_sums, side_faces}
use Rattle.flux_correct.specs.Corrected.{IsCorrected}
use Rattle.correction_laws.specs.Replaced.{half_of}
use Rattle.correction_laws.proofs.Digits.{child_of, child_stands, few_halves, halves_sum}
use Rattle.correction_laws.proofs.Covered.{InHalf, finer_face, in_part, in_part_within, part_face, part_index_again, shaped}

-- the numbers of a part in one direction, from a place on, are the sums of a list
abbrev pub HasFluxSums : Layout → ℕ → Bool → List ℕ → ℕ → List ℕ → Type 0
HasFluxSums l axis side list from part = (k : ℕ) → k < count_of (coarse_extents l axis) → slice_index part (from + k) ≡ flux_sum l axis side list (index_of (coarse_extents l axis) k)

sums_length : (l : Layout) (axis : ℕ) (side : Bool) (list : List ℕ) → length (flux_sums l axis side list) ≡ count_of (coarse_extents l axis)
sums_length l axis side list = length-map-range_with_len (λ k. flux_sum l axis side list (index_of (coarse_extents l axis) k)) 0 (count_of (coarse_extents l axis))

sum_at : (l : Layout) (axis : ℕ) (side : Bool) (list : List ℕ) (k : ℕ) → k < count_of (coarse_extents l axis) → slice_index (flux_sums l axis side list) k ≡ flux_sum l axis side list (index_of (coarse_extents l axis) k)
sum_at l axis side list k few = get_or-map-range_with_len (λ x. flux_sum l axis side list (index_of (coarse_extents l axis) x)) 0 (count_of (coarse_extents l axis)) k k 0 few (omega arith)

pub rights_of_part : (l : Layout) (axis : ℕ) (side : Bool) (right left : List ℕ) → HasFluxSums l axis side right 0 (flux_part l axis side right left)
rights_of_part l axis side right left k few =
    let long = sums_length l axis side right in
    ap (slice_index (flux_part l axis side right left)) (zero-add k)
    ∙ get_or_append_left (flux_sums l axis side right) (flux_sums l axis side left) 0 k (omega (arith, long))
    ∙ sum_at l axis side right k few

pub lefts_of_part : (l : Layout) (axis : ℕ) (side : Bool) (right left : List ℕ) → HasFluxSums l axis side left (count_of (coarse_extents l axis)) (flux_part l axis side right left)
lefts_of_part l axis side right left k few =
    ap (λ n. slice_index (flux_part l axis side right left) (n + k)) (sym (sums_length l axis side right))
    ∙ get_or-append-add (flux_sums l axis side right) (flux_sums l axis side left) k 0
    ∙ sum_at l axis side left k few

-- the finer faces behind a face stand at the finer block's own side
abbrev pub StandAtSide : Layout → Mesh → ℕ → Bool → List ℕ → Type 0
StandAtSide l m axis high i = (k : ℕ) → is_high_half k axis ≡ not high → slice_index (finer_index (shaped l m) (across_index (shaped l m) axis high 0 i) k) axis ≡ end_of (cells_along l axis) (not high)

bit_at_most : (side : Bool) → cond side 1 0 ≤ 1
bit_at_most true = omega arith
bit_at_most false = omega arith

pub sum_behind : (l : Layout) (m : Mesh) (axis : ℕ) (high : Bool) (j : ℕ) (i list : List ℕ) → InHalf l m axis high j i → axis < l.dims → StandAtSide l m axis high i →
    flux_sum l axis (not high) list (in_part l axis i)
    ≡ sum_over (children_at l.dims axis (not high)) (λ k. slice_index list (face_of l (finer_index (shaped l m) (across_index (shaped l m) axis high 0 i) k) axis (not high)))
sum_behind l m axis high j i list s used stand =
    let side : Bool = not high in
    let q : List ℕ = across_index (shaped l m) axis high 0 i in
    sum_same (count_of (face_factors l.dims axis)) (λ k. slice_index list (face_number l axis (added (side_faces l axis side).low (part_index (face_factors l.dims axis) (in_part l axis i) k))))
    (λ k. slice_index list (face_of l (finer_index (shaped l m) q (child_of axis side k)) axis side))
    (λ k few. ap (λ v. slice_index list (face_number l axis v))
    (finer_face l m axis high side i k (cond side 1 0) s.fit used few (bit_at_most side) (stand (child_of axis side k) (child_stands axis k side (few_halves l.dims axis k used s.fit.most few)))))
    ∙ sym (halves_sum l.dims axis side (λ k. slice_index list (face_of l (finer_index (shaped l m) q k) axis side)) used s.fit.most)

-- a face that a part has been put to has the sum
pub covered_sum : (l : Layout) (m : Mesh) (axis : ℕ) (high : Bool) (j from : ℕ) (i list part old new : List ℕ) → InHalf l m axis high j i → axis < l.dims → StandAtSide l m axis high i →
    HasFluxSums l axis (not high) list from part → IsCorrected l axis high (half_of axis j) from part old new →
    slice_index new (face_of l i axis high) ≡ sum_over (children_at l.dims axis (not high)) (λ k. slice_index list (face_of l (finer_index (shaped l m) (across_index (shaped l m) axis high 0 i) k) axis (not high)))
covered_sum l m axis high j from i list part old new s used stand has put =
    let u : List ℕ = in_part l axis i in
    let e : List ℕ = coarse_extents l axis in
    let w = in_part_within l axis i s.three s.fit in
    ap (λ v. slice_index new (face_number l axis v)) (sym (part_face l m axis high j i s))
    ∙ put.sums u w
    ∙ has (number_of e u) (number_bound e u w)
    ∙ ap (flux_sum l axis (not high) list) (part_index_again l axis i s.three s.fit)
    ∙ sum_behind l m axis high j i list s used stand
