-- Flux letters: their senders are finer, and what they are about.
use Rattle.std.proofs.Common.{◌≡◌, ℕ, zero, suc, ◌+◌, ◌*◌, ◌/◌, ◌<◌, Bool, true, false, cond, not, nat_lt, List, [], Contains, refl, arith, ap, subst, sym, ◌∙◌, slice_index}
use Rattle.std.specs.List.{list_any}
use Rattle.morton_order.specs.declared.space.Loc.{Loc}
use Rattle.morton_order.specs.Space.{factor}
use Rattle.morton_order.proofs.Crossing.{crossed_level}
use Rattle.block_tree.specs.Behind.{Behind, Names, behind, coarse, fine, outside, same}
use Rattle.mesh_rules.specs.Due.{Exchange, flux_letters}
use Rattle.mesh_rules.specs.Mesh.{is_inner}
use Rattle.block_layout.specs.declared.layout.Layout.{Layout}
use Rattle.block_layout.specs.Sizes.{IsLayout}
use Rattle.block_layout.specs.Indices.{IsWithin, added, count_of}
use Rattle.block_layout.specs.Faces.{face_extents}
use Rattle.block_layout.specs.Regions.{half_along}
use Rattle.block_layout.proofs.Boxes.{mod_below}
use Rattle.block_geometry.specs.Blocks.{FieldBlock}
use Rattle.restrict_prolong.proofs.Halves.{factor_least}
use Rattle.flux_correct.specs.Sums.{coarse_extents, flux_part}
use Rattle.flux_correct.specs.Corrected.{covered}
use Rattle.correction_laws.proofs.Covered.{sized1, sized2, sized3}
use Rattle.correction_laws.proofs.Digits.{placed_below}
use Rattle.ghost_buffers.specs.declared.part.How.TheVariants.{Finer}
use Rattle.ghost_buffers.specs.Parts.{part_extents}
use Rattle.letter_laws.specs.Sides.{IsSide}
use Rattle.letter_laws.proofs.Behinds.{same_met}
use Rattle.letter_laws.proofs.CoarserLevel.{above_is}
use Rattle.cycle_kernels.specs.Blocks.{CycleMesh, leaf_at}
use Rattle.cycle_kernels.specs.Laws.{IsCycleMesh}
use Rattle.cycle_kernels.specs.Letters.{no_part, same_letter}
use Rattle.cycle_kernels.specs.Pairs.{no_pairs, sums_sent}
use Rattle.cycle_kernels.proofs.Tables.{zero_here, zeros}
use Rattle.cycle_kernels.proofs.Zeros.{zero_flux_part}
use Rattle.cycle_kernel_laws.specs.Shown.{block_with}
use Rattle.cycle_kernel_laws.proofs.Apart.{axis_three, sent_by_finer, used_here}
use Rattle.cycle_kernel_laws.proofs.Due.{IsFluxLink, flux_link}
use Rattle.cycle_kernel_laws.proofs.Sees.{side_is}

-- the sender of a flux letter is finer
pub finer_sends : (w : CycleMesh) (x : Exchange) → IsCycleMesh w → IsFluxLink w x → (leaf_at w x.to).level < (leaf_at w x.from).level
finer_sends w x is flux =
    let link = flux.link in
    let b : FieldBlock = block_with w [] 0 x.from in
    let side : IsSide b x.axis = side_is w [] 0 x.from x.axis is link.few_from (used_here w x.axis is link.used) in
    let above = above_is b x.axis (not x.high) (leaf_at w x.to) side flux.coarser in
    let level = above.level in
    omega (arith, level)

-- as many numbers as a part of a ghost letter has
pub sums_many : (l : Layout) (axis : ℕ) → axis < 3 → count_of (coarse_extents l axis) + count_of (coarse_extents l axis) ≡ count_of (part_extents Finer l axis)
sums_many l zero h = twice_first (slice_index l.cells 1 / factor l.dims 1) (slice_index l.cells 2 / factor l.dims 2)
  where
    twice_first : (a b : ℕ) → 1 * a * b + 1 * a * b ≡ 2 * a * b
    twice_first a b = grind arith
sums_many l (suc zero) h = twice_middle (slice_index l.cells 0 / factor l.dims 0) (slice_index l.cells 2 / factor l.dims 2)
  where
    twice_middle : (a b : ℕ) → a * 1 * b + a * 1 * b ≡ a * 2 * b
    twice_middle a b = grind arith
sums_many l (suc (suc zero)) h = twice_last (slice_index l.cells 0 / factor l.dims 0) (slice_index l.cells 1 / factor l.dims 1)
  where
    twice_last : (a b : ℕ) → a * b * 1 + a * b * 1 ≡ a * b * 2
    twice_last a b = grind arith
sums_many l (suc (suc (suc a))) h = absurd (omega arith)

pub no_part_is : (w : CycleMesh) (x : Exchange) → IsCycleMesh w → IsFluxLink w x → zeros (count_of (coarse_extents w.layout x.axis) + count_of (coarse_extents w.layout x.axis)) ≡ no_part w x
no_part_is w x is flux =
    ap zeros (sums_many w.layout x.axis (axis_three w x.axis is flux.link.used)
    ∙ ap (λ how. count_of (part_extents how w.layout x.axis)) (sym (sent_by_finer w x (finer_sends w x is flux))))

-- the sums of no pairs
pub no_sums : (w : CycleMesh) (x : Exchange) → IsCycleMesh w → sums_sent w x (no_pairs w) ≡ no_part w x
no_sums w x is = by (list_any (same_letter x) (flux_letters w.mesh)) refl
  where
    by : (t : Bool) → list_any (same_letter x) (flux_letters w.mesh) ≡ t → cond t (flux_part w.layout x.axis (not x.high) (no_pairs w).right (no_pairs w).left) (no_part w x) ≡ no_part w x
    by true e = zero_flux_part w.layout x.axis (not x.high) (no_pairs w).right (no_pairs w).left (zero_here _) (zero_here _) ∙ no_part_is w x is (flux_link w x is.mesh e)
    by false e = refl

-- what stands behind the side of the receiver
pub record IsFineSide (w : CycleMesh) (x : Exchange) : Type 0 where
  pub leaves : List Loc
  pub behind_is : behind w.mesh.shape (is_inner w.mesh) (leaf_at w x.to) x.axis x.high ≡ fine leaves
  pub among : Contains leaves (leaf_at w x.from)

pub fine_side : (w : CycleMesh) (x : Exchange) → IsCycleMesh w → IsFluxLink w x → IsFineSide w x
fine_side w x is flux = by (behind w.mesh.shape (is_inner w.mesh) (leaf_at w x.to) x.axis x.high) refl
  where
    less : (leaf_at w x.to).level < (leaf_at w x.from).level
    less = finer_sends w x is flux

    by : (v : Behind) → behind w.mesh.shape (is_inner w.mesh) (leaf_at w x.to) x.axis x.high ≡ v → IsFineSide w x
    by outside e = absurd (subst (λ (v : Behind). Names v (leaf_at w x.from)) e flux.link.comes)
    by (same o) e =
        let from : leaf_at w x.from ≡ o = subst (λ (v : Behind). Names v (leaf_at w x.from)) e flux.link.comes in
        let met = same_met (block_with w [] 0 x.to) x.axis x.high o e in
        let level : o.level ≡ (leaf_at w x.to).level = ap (λ (v : Loc). v.level) (sym met.1) ∙ crossed_level w.mesh.shape (leaf_at w x.to) x.axis x.high met.0.at met.0.meets in
        let up : (leaf_at w x.from).level ≡ o.level = ap (λ (v : Loc). v.level) from in
        let higher = finer_sends w x is flux in
        absurd (omega (arith, level, up, higher))
    by (coarse o) e =
        let from : leaf_at w x.from ≡ o = subst (λ (v : Behind). Names v (leaf_at w x.from)) e flux.link.comes in
        let above = above_is (block_with w [] 0 x.to) x.axis x.high o (side_is w [] 0 x.to x.axis is flux.link.few_to (used_here w x.axis is flux.link.used)) e in
        let level = above.level in
        let up : (leaf_at w x.from).level ≡ o.level = ap (λ (v : Loc). v.level) from in
        let higher = finer_sends w x is flux in
        absurd (omega (arith, level, up, higher))
    by (fine os) e = record { leaves = os; behind_is = e; among = subst (λ (v : Behind). Names v (leaf_at w x.from)) e flux.link.comes }

-- the faces that a part is about are faces of the block
half_below : (dims axis half c : ℕ) → half_along dims axis half c < factor dims c
half_below dims axis half c = mod_below _ (factor dims c) (factor_least dims c)

first_below : (n u : ℕ) (high : Bool) → u < 1 → cond high n 0 + 0 + u < n + 1
first_below n u true h = omega arith
first_below n u false h = omega arith

pub covered_within : (l : Layout) (axis : ℕ) (high : Bool) (half : ℕ) (u : List ℕ) → axis < 3 → IsLayout l.dims l.cells → IsWithin (coarse_extents l axis) u → IsWithin (face_extents l axis) (added (covered l axis high half).low u)
covered_within l zero high half u h s w = record {
  along1 = first_below (slice_index l.cells 0) (slice_index u 0) high w.along1;
  along2 = placed_below (nat_lt 1 l.dims) (slice_index l.cells 1) (slice_index u 1) (half_along l.dims 0 half 1) (sized2 l s) (half_below l.dims 0 half 1) w.along2;
  along3 = placed_below (nat_lt 2 l.dims) (slice_index l.cells 2) (slice_index u 2) (half_along l.dims 0 half 2) (sized3 l s) (half_below l.dims 0 half 2) w.along3;
}
covered_within l (suc zero) high half u h s w = record {
  along1 = placed_below (nat_lt 0 l.dims) (slice_index l.cells 0) (slice_index u 0) (half_along l.dims 1 half 0) (sized1 l s) (half_below l.dims 1 half 0) w.along1;
  along2 = first_below (slice_index l.cells 1) (slice_index u 1) high w.along2;
  along3 = placed_below (nat_lt 2 l.dims) (slice_index l.cells 2) (slice_index u 2) (half_along l.dims 1 half 2) (sized3 l s) (half_below l.dims 1 half 2) w.along3;
}
covered_within l (suc (suc zero)) high half u h s w = record {
  along1 = placed_below (nat_lt 0 l.dims) (slice_index l.cells 0) (slice_index u 0) (half_along l.dims 2 half 0) (sized1 l s) (half_below l.dims 2 half 0) w.along1;
  along2 = placed_below (nat_lt 1 l.dims) (slice_index l.cells 1) (slice_index u 1) (half_along l.dims 2 half 1) (sized2 l s) (half_below l.dims 2 half 1) w.along2;
  along3 = first_below (slice_index l.cells 2) (slice_index u 2) high w.along3;
}
covered_within l (suc (suc (suc a))) high half u h s w = absurd (omega arith)
