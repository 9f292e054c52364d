-- Parts of letters between blocks of two levels: how long they are, and that their sums are small.
use Rattle.std.proofs.Common.{◌≡◌, ℕ, zero, suc, ◌+◌, ◌<◌, ◌≤◌, ◌^◌, Bool, List, All, length, slice_index, arith, ap, ◌∙◌, length-append}
use Rattle.std.proofs.lemmas.List.FromFn.{length-map-range_with_len}
use Rattle.block_layout.specs.declared.layout.Layout.{Layout}
use Rattle.block_layout.specs.Indices.{added, count_of, index_of}
use Rattle.block_layout.specs.Faces.{face_number}
use Rattle.block_regions.specs.Written.{place_in}
use Rattle.restrict_prolong.specs.Refined.{factors, part_index}
use Rattle.ghost_buffers.specs.declared.part.How.{How}
use Rattle.ghost_buffers.specs.declared.part.How.TheVariants.{Same, Finer, Coarser}
use Rattle.ghost_buffers.specs.Parts.{PartBelow, part_cell, part_extents, part_of, sent}
use Rattle.flux_correct.specs.Sums.{coarse_extents, face_factors, flux_part, flux_sum, flux_sums, side_faces}
use Rattle.flux_correct.specs.Boxes.{SumsBelow}
use Rattle.kernel_cases.proofs.SmallSums.{each_small, eight, eight_fit}

-- parts of cells
pub part_small : (how : How) (l : Layout) (axis : ℕ) (high : Bool) (half : ℕ) (cells : List ℕ) → l.dims ≤ 3 → All (λ t. t < 2 ^ 32) cells → PartBelow (2 ^ 62) how l axis high half cells
part_small Same l axis high half cells h small = tt
part_small Finer l axis high half cells h small = λ i w.
    eight_fit (count_of (factors l.dims)) (λ j. slice_index cells (place_in l (sent Finer l axis high half) (part_index (factors l.dims) i j))) (eight l.dims h)
    (λ j. each_small cells (place_in l (sent Finer l axis high half) (part_index (factors l.dims) i j)) small)
part_small Coarser l axis high half cells h small = tt

cells_long : (how : How) (l : Layout) (axis : ℕ) (high : Bool) (half : ℕ) (cells : List ℕ) → length (part_of how l axis high half cells) ≡ count_of (part_extents how l axis)
cells_long how l axis high half cells = length-map-range_with_len (λ k. part_cell how l axis high half cells (index_of (part_extents how l axis) k)) 0 (count_of (part_extents how l axis))

pub part_long : (how : How) (l : Layout) (axis own : ℕ) (high : Bool) (half : ℕ) (cells part : List ℕ) → axis ≡ own → part ≡ part_of how l axis high half cells → length part ≡ count_of (part_extents how l own)
part_long how l axis own high half cells part facing is = ap length is ∙ cells_long how l axis high half cells ∙ ap (λ (a : ℕ). count_of (part_extents how l a)) facing

-- parts of sums of what passes faces
few_faces : (dims axis : ℕ) → dims ≤ 3 → count_of (face_factors dims axis) ≤ 8
few_faces zero zero h = omega arith
few_faces zero (suc zero) h = omega arith
few_faces zero (suc (suc axis)) h = omega arith
few_faces (suc zero) zero h = omega arith
few_faces (suc zero) (suc zero) h = omega arith
few_faces (suc zero) (suc (suc axis)) h = omega arith
few_faces (suc (suc zero)) zero h = omega arith
few_faces (suc (suc zero)) (suc zero) h = omega arith
few_faces (suc (suc zero)) (suc (suc axis)) h = omega arith
few_faces (suc (suc (suc zero))) zero h = omega arith
few_faces (suc (suc (suc zero))) (suc zero) h = omega arith
few_faces (suc (suc (suc zero))) (suc (suc axis)) h = omega arith
few_faces (suc (suc (suc (suc n)))) axis h = absurd (omega arith)

pub fluxes_small : (l : Layout) (axis : ℕ) (high : Bool) (list : List ℕ) → l.dims ≤ 3 → All (λ t. t < 2 ^ 32) list → SumsBelow (2 ^ 64) l axis high list
fluxes_small l axis high list h small i w =
    let sum = eight_fit (count_of (face_factors l.dims axis)) (λ j. slice_index list (face_number l axis (added (side_faces l axis high).low (part_index (face_factors l.dims axis) i j)))) (few_faces l.dims axis h)
    (λ j. each_small list (face_number l axis (added (side_faces l axis high).low (part_index (face_factors l.dims axis) i j))) small) in
    omega (arith, sum)

sums_long : (l : Layout) (axis : ℕ) (high : Bool) (list : List ℕ) → length (flux_sums l axis high list) ≡ count_of (coarse_extents l axis)
sums_long l axis high list = length-map-range_with_len (λ k. flux_sum l axis high list (index_of (coarse_extents l axis) k)) 0 (count_of (coarse_extents l axis))

both_long : (l : Layout) (axis : ℕ) (high : Bool) (right left : List ℕ) → length (flux_part l axis high right left) ≡ count_of (coarse_extents l axis) + count_of (coarse_extents l axis)
both_long l axis high right left =
    length-append (flux_sums l axis high right) (flux_sums l axis high left)
    ∙ both (length (flux_sums l axis high right)) (length (flux_sums l axis high left)) (count_of (coarse_extents l axis)) (sums_long l axis high right) (sums_long l axis high left)
  where
    both : (a b n : ℕ) → a ≡ n → b ≡ n → a + b ≡ n + n
    both a b n e f = omega arith

pub fluxes_long : (l : Layout) (axis own : ℕ) (high : Bool) (right left part : List ℕ) → axis ≡ own → part ≡ flux_part l axis high right left → length part ≡ count_of (coarse_extents l own) + count_of (coarse_extents l own)
fluxes_long l axis own high right left part facing is =
    ap length is ∙ both_long l axis high right left ∙ ap (λ (a : ℕ). count_of (coarse_extents l a) + count_of (coarse_extents l a)) facing
