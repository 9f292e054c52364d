-- Flux parts that are put in the lists of leaves.
use Rattle.std.proofs.Common.{◌≡◌, ℕ, ◌+◌, Bool, List, length, arith, ap, ◌∙◌, length-append}
use Rattle.std.proofs.lemmas.List.FromFn.{length-map-range_with_len}
use Rattle.block_layout.specs.declared.layout.Layout.{Layout}
use Rattle.block_layout.specs.Indices.{count_of, index_of}
use Rattle.flux_correct.specs.Sums.{coarse_extents, flux_part, flux_sum, flux_sums}

sums_length : (l : Layout) (axis : ℕ) (side : Bool) (list : List ℕ) → length (flux_sums l axis side list) ≡ count_of (coarse_extents l axis)
sums_length l axis side list = length-map-range_with_len (λ k. flux_sum l axis side list (index_of (coarse_extents l axis) k)) 0 (count_of (coarse_extents l axis))

pub part_length : (l : Layout) (axis : ℕ) (side : Bool) (right left part : List ℕ) → part ≡ flux_part l axis side right left → length part ≡ count_of (coarse_extents l axis) + count_of (coarse_extents l axis)
part_length l axis side right left part is =
    ap (λ (v : List ℕ). length v) is ∙ length-append (flux_sums l axis side right) (flux_sums l axis side left)
    ∙ both (length (flux_sums l axis side right)) (length (flux_sums l axis side left)) (count_of (coarse_extents l axis)) (sums_length l axis side right) (sums_length l axis side left)
  where
    both : (a b n : ℕ) → a ≡ n → b ≡ n → a + b ≡ n + n
    both a b n e f = omega arith
