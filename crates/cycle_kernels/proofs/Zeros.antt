-- Nothing gives nothing.
use Rattle.std.proofs.Common.{◌≡◌, ◌==◌, ℕ, zero, suc, ◌+◌, ◌-◌, ◌/◌, ◌%◌, ◌≤◌, Bool, true, false, cond, not, nat_lt, List, [], ◌++◌, replicate, slice_index, refl, arith, ap, ◌∙◌}
use Rattle.std.proofs.lemmas.Bool.{le-ltb}
use Rattle.mesh_num.specs.Portion.{portion}
use Rattle.mesh_num.specs.Share.{share}
use Rattle.mesh_laws.proofs.Grids.{sum_zero}
use Rattle.mesh_laws.proofs.Pays.{portion_nothing}
use Rattle.mesh_rules.specs.Due.{Exchange}
use Rattle.mesh_rules.specs.Fields.{moves_at, rates_at}
use Rattle.block_layout.specs.declared.layout.Layout.{Layout}
use Rattle.block_layout.specs.Faces.{face_count, face_extents, face_number, faces_along}
use Rattle.block_layout.specs.Indices.{count_of, index_of, number_of}
use Rattle.block_layout.specs.Layouts.{interior_len, len}
use Rattle.block_regions.specs.Written.{cell_in, place_in}
use Rattle.restrict_prolong.specs.Refined.{coarsened, factors, part_index, part_number}
use Rattle.ghost_buffers.specs.declared.part.How.{How}
use Rattle.ghost_buffers.specs.declared.part.How.TheVariants.{Same, Finer, Coarser}
use Rattle.ghost_buffers.specs.Parts.{part_cell, part_extents, part_of, sent}
use Rattle.ghost_buffers.specs.Ghosts.{ghost_cell}
use Rattle.stage_rules.specs.Rules.{limited}
use Rattle.upwind_fluxes.specs.declared.donor.Donor.{Donor}
use Rattle.upwind_fluxes.specs.declared.donor.Donor.TheVariants.{Below, Above}
use Rattle.upwind_fluxes.specs.Fluxes.{donor_total, flux_at, is_closed}
use Rattle.slope_kernel.specs.Slopes.{donor_at, slope_flux, total_beside}
use Rattle.transport_kernel.specs.Update.{face_beside, gain, gain_along, listed, loss, loss_along, sum_axes}
use Rattle.transport_kernel.specs.Passed.{passed_at, side_faces, sum_below}
use Rattle.flux_correct.specs.Sums.{coarse_extents, face_factors, flux_in, flux_part, flux_sum, flux_sums}
use Rattle.flux_correct.specs.Sums as sums
use Rattle.cycle_kernels.specs.Blocks.{CycleMesh, is_domain_face, leaf_at}
use Rattle.cycle_kernels.specs.Lists.{is_own, own_number, with_ghosts}
use Rattle.cycle_kernels.specs.Letters.{how_sent, no_part, region_sent}
use Rattle.cycle_kernels.specs.Pairs.{FacePairs, closed_sides, face_list, flux_through, fluxes_of, inflow_of, list_along, no_pairs, outflow_of, paid_by, passed_face, updated_at, updated_by}
use Rattle.cycle_kernels.proofs.Tables.{AllZero, none_here, same_either, zero_here, zero_parts, zero_table, same_zeros, zeros}

-- the list of a block
pub zero_block : (l : Layout) (own ghosts : List ℕ) → AllZero own → AllZero ghosts → with_ghosts l own ghosts ≡ replicate (len l) 0
zero_block l own ghosts a b =
    zero_table (len l) (λ place. cond (is_own l place) (slice_index own (own_number l place)) (slice_index ghosts place))
    (λ place. ap (λ v. cond (is_own l place) v (slice_index ghosts place)) (a (own_number l place)) ∙ ap (λ v. cond (is_own l place) 0 v) (b place) ∙ same_either (is_own l place) 0)

pub zero_list : (l : Layout) (own ghosts : List ℕ) → AllZero own → AllZero ghosts → AllZero (with_ghosts l own ghosts)
zero_list l own ghosts a b k = ap (λ (v : List ℕ). slice_index v k) (zero_block l own ghosts a b) ∙ zero_here (len l) k

-- parts of letters
pub zero_cell : (how : How) (l : Layout) (axis : ℕ) (high : Bool) (half : ℕ) (cells i : List ℕ) → AllZero cells → part_cell how l axis high half cells i ≡ 0
zero_cell Same l axis high half cells i z = z (place_in l (sent Same l axis high half) i)
zero_cell Finer l axis high half cells i z = sum_zero (count_of (factors l.dims)) (λ j. cell_in l (sent Finer l axis high half) cells (part_index (factors l.dims) i j)) (λ j h. z (place_in l (sent Finer l axis high half) (part_index (factors l.dims) i j)))
zero_cell Coarser l axis high half cells i z = z (place_in l (sent Coarser l axis high half) i)

pub zero_part : (how : How) (l : Layout) (axis : ℕ) (high : Bool) (half : ℕ) (cells : List ℕ) → AllZero cells → part_of how l axis high half cells ≡ replicate (count_of (part_extents how l axis)) 0
zero_part how l axis high half cells z = zero_table (count_of (part_extents how l axis)) (λ k. part_cell how l axis high half cells (index_of (part_extents how l axis) k)) (λ k. zero_cell how l axis high half cells (index_of (part_extents how l axis) k) z)

pub nothing_sent : (w : CycleMesh) (x : Exchange) → region_sent w x (replicate (interior_len w.layout) 0) ≡ no_part w x
nothing_sent w x = zero_part (how_sent w x) w.layout x.axis (not x.high) _ (with_ghosts w.layout (replicate (interior_len w.layout) 0) []) (zero_list w.layout (replicate (interior_len w.layout) 0) [] (zero_here (interior_len w.layout)) none_here)

no_quotient : (n : ℕ) → 0 / n ≡ 0
no_quotient zero = refl
no_quotient (suc n) = grind arith

no_rest : (n : ℕ) → 0 % n ≡ 0
no_rest zero = refl
no_rest (suc n) = grind arith

abbrev one_if : Bool → ℕ
one_if b = cond b 1 0

no_more : (j r : ℕ) → r ≡ 0 → ◌≡◌ {A = ℕ} (cond (nat_lt j r) 1 0) 0
no_more j r e = ap (λ (v : ℕ). one_if (nat_lt j v)) e ∙ ap one_if (le-ltb j 0 (omega arith))

zero_share : (n j : ℕ) → share 0 n j ≡ 0
zero_share n j = let a = no_quotient n in let b = no_more j (0 % n) (no_rest n) in omega (arith, a, b)

pub zero_ghost : (how : How) (l : Layout) (axis : ℕ) (part i : List ℕ) → AllZero part → ghost_cell how l axis part i ≡ 0
zero_ghost Same l axis part i z = z (number_of (part_extents Same l axis) i)
zero_ghost Finer l axis part i z = z (number_of (part_extents Finer l axis) i)
zero_ghost Coarser l axis part i z =
    ap (λ v. share v (count_of (factors l.dims)) (part_number (factors l.dims) i)) (z (number_of (part_extents Coarser l axis) (coarsened (factors l.dims) i)))
    ∙ zero_share (count_of (factors l.dims)) (part_number (factors l.dims) i)

-- what passes faces
zero_along : (l : Layout) (axis : ℕ) (each : ℕ → List ℕ → ℕ) → ((axis : ℕ) (i : List ℕ) → each axis i ≡ 0) → list_along l axis each ≡ zeros (faces_along l axis)
zero_along l axis each z = zero_table (faces_along l axis) (λ k. each axis (index_of (face_extents l axis) k)) (λ k. z axis (index_of (face_extents l axis) k))

three_zeros : (a b c : ℕ) (u v w : List ℕ) → u ≡ zeros a → v ≡ zeros b → w ≡ zeros c → u ++ (v ++ w) ≡ zeros (a + b + c)
three_zeros a b c u v w e f g =
    ap (λ x. x ++ (v ++ w)) e ∙ ap (λ x. zeros a ++ (x ++ w)) f ∙ ap (λ x. zeros a ++ (zeros b ++ x)) g
    ∙ ap (λ x. zeros a ++ x) (zero_parts b c) ∙ zero_parts a (b + c) ∙ same_zeros (a + (b + c)) (a + b + c) (omega arith)

pub zero_faces : (l : Layout) (each : ℕ → List ℕ → ℕ) → ((axis : ℕ) (i : List ℕ) → each axis i ≡ 0) → face_list l each ≡ zeros (face_count l)
zero_faces l each z = three_zeros (faces_along l 0) (faces_along l 1) (faces_along l 2) (list_along l 0 each) (list_along l 1 each) (list_along l 2 each) (zero_along l 0 each z) (zero_along l 1 each z) (zero_along l 2 each z)

no_slope : (a b c : ℕ) → a ≡ 0 → b ≡ 0 → c ≡ 0 → limited a b c ≡ 0
no_slope a b c e f g = ap (λ v. limited v b c) e ∙ ap (λ v. limited 0 v c) f ∙ ap (λ v. limited 0 0 v) g

zero_donor : (l : Layout) (donor : Donor) (cells : List ℕ) (axis : ℕ) (i : List ℕ) → AllZero cells → donor_at l donor cells axis i ≡ 0
zero_donor l Below cells axis i z = no_slope (total_beside l cells axis 0 i) (total_beside l cells axis 1 i) (total_beside l cells axis 2 i) (z _) (z _) (z _)
zero_donor l Above cells axis i z = no_slope (total_beside l cells axis 3 i) (total_beside l cells axis 2 i) (total_beside l cells axis 1 i) (z _) (z _) (z _)

no_payment : (closed : Bool) (total rate d : ℕ) → 1 ≤ d → total ≡ 0 → cond closed 0 (portion total rate d) ≡ 0
no_payment true total rate d some e = refl
no_payment false total rate d some e = ap (λ v. portion v rate d) e ∙ portion_nothing rate d some

pub zero_flux : (w : CycleMesh) (b f : ℕ) (donor : Donor) (cells : List ℕ) (axis : ℕ) (i : List ℕ) → 1 ≤ w.settings.denominator → AllZero cells → flux_through w b f donor cells axis i ≡ 0
zero_flux w b f donor cells axis i some z = by ((moves_at w.settings f).order == 2)
  where
    by : (second : Bool) → cond second (slope_flux w.layout donor (paid_by donor (rates_at w.settings f axis (leaf_at w b).level)) w.settings.denominator (closed_sides w b) cells axis i)
        (flux_at w.layout donor (paid_by donor (rates_at w.settings f axis (leaf_at w b).level)) w.settings.denominator (closed_sides w b) cells axis i) ≡ 0
    by true = no_payment (is_closed w.layout (closed_sides w b) axis i) (donor_at w.layout donor cells axis i) (paid_by donor (rates_at w.settings f axis (leaf_at w b).level)) w.settings.denominator some (zero_donor w.layout donor cells axis i z)
    by false = no_payment (is_closed w.layout (closed_sides w b) axis i) (donor_total w.layout donor cells axis i) (paid_by donor (rates_at w.settings f axis (leaf_at w b).level)) w.settings.denominator some (z _)

pub same_pairs : (x : FacePairs) (right left : List ℕ) → x.right ≡ right → x.left ≡ left → x ≡ record { right = right; left = left }
same_pairs x right left e f = λ i. record { right = e i; left = f i }

pub no_flux : (w : CycleMesh) (b f : ℕ) → 1 ≤ w.settings.denominator → fluxes_of w b f (zeros (interior_len w.layout)) (zeros (len w.layout)) ≡ no_pairs w
no_flux w b f some =
    let cells : List ℕ = with_ghosts w.layout (zeros (interior_len w.layout)) (zeros (len w.layout)) in
    let z : AllZero cells = zero_list w.layout (zeros (interior_len w.layout)) (zeros (len w.layout)) (zero_here (interior_len w.layout)) (zero_here (len w.layout)) in
    same_pairs (fluxes_of w b f (zeros (interior_len w.layout)) (zeros (len w.layout))) (zeros (face_count w.layout)) (zeros (face_count w.layout))
    (zero_faces w.layout (flux_through w b f Below cells) (λ axis i. zero_flux w b f Below cells axis i some z))
    (zero_faces w.layout (flux_through w b f Above cells) (λ axis i. zero_flux w b f Above cells axis i some z))

-- flux sums
pub zero_sums : (l : Layout) (axis : ℕ) (high : Bool) (list : List ℕ) → AllZero list → flux_sums l axis high list ≡ zeros (count_of (coarse_extents l axis))
zero_sums l axis high list z = zero_table (count_of (coarse_extents l axis)) (λ k. flux_sum l axis high list (index_of (coarse_extents l axis) k))
    (λ k. sum_zero (count_of (face_factors l.dims axis)) (λ j. flux_in l axis (sums.side_faces l axis high) list (part_index (face_factors l.dims axis) (index_of (coarse_extents l axis) k) j)) (λ j h. z _))

pub zero_flux_part : (l : Layout) (axis : ℕ) (high : Bool) (right left : List ℕ) → AllZero right → AllZero left → flux_part l axis high right left ≡ zeros (count_of (coarse_extents l axis) + count_of (coarse_extents l axis))
zero_flux_part l axis high right left a b =
    ap (λ v. v ++ flux_sums l axis high left) (zero_sums l axis high right a) ∙ ap (λ v. zeros (count_of (coarse_extents l axis)) ++ v) (zero_sums l axis high left b)
    ∙ zero_parts (count_of (coarse_extents l axis)) (count_of (coarse_extents l axis))

-- updates
zero_axes : (n : ℕ) (each : ℕ → ℕ) → ((axis : ℕ) → each axis ≡ 0) → sum_axes n each ≡ 0
zero_axes zero each z = refl
zero_axes (suc n) each z = let a = zero_axes n each z in let b = z n in omega (arith, a, b)

no_change : (q g l : ℕ) → q ≡ 0 → g ≡ 0 → l ≡ 0 → q + g - l ≡ 0
no_change q g l e f h = omega arith

two_none : (a b : ℕ) → a ≡ 0 → b ≡ 0 → a + b ≡ 0
two_none a b e f = omega arith

pub no_update : (w : CycleMesh) → updated_by w (zeros (interior_len w.layout)) (no_pairs w) ≡ zeros (interior_len w.layout)
no_update w = zero_table (interior_len w.layout) (updated_at w (zeros (interior_len w.layout)) (no_pairs w)) each
  where
    l : Layout
    l = w.layout

    nothing : (axis : ℕ) (i : List ℕ) → listed l (zeros (face_count l)) axis i ≡ 0
    nothing axis i = zero_here (face_count l) (face_number l axis i)

    each : (k : ℕ) → updated_at w (zeros (interior_len w.layout)) (no_pairs w) k ≡ 0
    each k =
        let i : List ℕ = index_of l.cells k in
        let n : ℕ → List ℕ → ℕ = listed l (zeros (face_count l)) in
        no_change (slice_index (zeros (interior_len l)) k) (gain l.dims n n i) (loss l.dims n n i) (zero_here (interior_len l) k)
        (zero_axes l.dims (gain_along n n i) (λ axis. two_none (n axis (face_beside i axis false)) (n axis (face_beside i axis true)) (nothing axis (face_beside i axis false)) (nothing axis (face_beside i axis true))))
        (zero_axes l.dims (loss_along n n i) (λ axis. two_none (n axis (face_beside i axis false)) (n axis (face_beside i axis true)) (nothing axis (face_beside i axis false)) (nothing axis (face_beside i axis true))))

-- what passes faces of the domain
zero_below : (n : ℕ) (each : ℕ → ℕ) → ((k : ℕ) → each k ≡ 0) → sum_below n each ≡ 0
zero_below zero each z = refl
zero_below (suc n) each z = let a = zero_below n each z in let b = z n in omega (arith, a, b)

zero_passed : (l : Layout) (axis : ℕ) (high : Bool) (list : List ℕ) → AllZero list → passed_at l axis high list ≡ 0
zero_passed l axis high list z = zero_below (slice_index (side_faces l axis) 2) _ (λ c. zero_below (slice_index (side_faces l axis) 1) _ (λ b. zero_below (slice_index (side_faces l axis) 0) _ (λ a. z _)))

zero_face : (w : CycleMesh) (b axis : ℕ) (high : Bool) (list : List ℕ) → AllZero list → passed_face w b axis high list ≡ 0
zero_face w b axis high list z = ap (λ v. cond (is_domain_face w b axis high) v 0) (zero_passed w.layout axis high list z) ∙ same_either (is_domain_face w b axis high) 0

pub no_inflow : (w : CycleMesh) (b : ℕ) → inflow_of w b (no_pairs w) ≡ 0
no_inflow w b = sum_zero w.layout.dims _ (λ axis h. two_none _ _ (zero_face w b axis false (zeros (face_count w.layout)) (zero_here (face_count w.layout))) (zero_face w b axis true (zeros (face_count w.layout)) (zero_here (face_count w.layout))))

pub no_outflow : (w : CycleMesh) (b : ℕ) → outflow_of w b (no_pairs w) ≡ 0
no_outflow w b = sum_zero w.layout.dims _ (λ axis h. two_none _ _ (zero_face w b axis false (zeros (face_count w.layout)) (zero_here (face_count w.layout))) (zero_face w b axis true (zeros (face_count w.layout)) (zero_here (face_count w.layout))))
