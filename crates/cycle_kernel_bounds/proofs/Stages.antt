-- Flux sums are small, and no cell pays more than it has.
use Rattle.std.proofs.Common.{◌≡◌, ◌==◌, inl, inr, ℕ, zero, suc, ◌+◌, ◌-◌, ◌*◌, ◌^◌, ◌<◌, ◌≤◌, Bool, true, false, cond, List, refl, arith, ap, subst, sym, ◌∙◌, slice_index, lit<}
use Rattle.std.proofs.lemmas.Bool.{cases_eq, cases_lt, eqb-true}
use Rattle.mesh_num.specs.Portion.{portion}
use Rattle.mesh_num.specs.Rate.{rate}
use Rattle.morton_order.specs.declared.space.Loc.{Loc}
use Rattle.morton_order.specs.Space.{parent}
use Rattle.block_tree.proofs.Ancestors.{node_parent}
use Rattle.package_fields.specs.declared.field.Field.{Field}
use Rattle.package_fields.specs.declared.flag.Flag.TheVariants.{WithFluxes}
use Rattle.package_fields.specs.Flags.{has}
use Rattle.problem_set.specs.SoundProblem.{IsFittingSum}
use Rattle.problem_set.specs.Rates.{both_rates, downwards, rate_sum, upwards, velocity}
use Rattle.deck_entries.specs.declared.entries.Moves.{Moves}
use Rattle.mesh_rules.specs.Fields.{field_at, moves_at, rates_at}
use Rattle.mesh_rules.specs.Mesh.{Mesh, is_inner, stored}
use Rattle.mesh_rules.specs.Faces.{reconstructed}
use Rattle.mesh_rules.specs.Stage as stages
use Rattle.mesh_rules.specs.Sums.{sum_to}
use Rattle.mesh_laws.proofs.Pays.{most, most_within, pays_at_most, reconstructed_most, term_least}
use Rattle.mesh_laws.proofs.Portions.{portion_of_more, portion_within, rate_grows}
use Rattle.block_layout.specs.declared.layout.Layout.{Layout}
use Rattle.block_layout.specs.Indices.{IsWithin, added, count_of}
use Rattle.block_layout.specs.Faces.{face_extents}
use Rattle.block_geometry.specs.Blocks.{FieldBlock, cell_in, own_place}
use Rattle.block_geometry.proofs.Cells.{cell_inside}
use Rattle.block_geometry.proofs.Seen.{on_leaf}
use Rattle.block_laws.proofs.Updates.{update_is_stage}
use Rattle.restrict_prolong.specs.Refined.{part_index}
use Rattle.restrict_prolong.proofs.Restored.{part_within}
use Rattle.flux_correct.specs.Sums.{coarse_extents, face_factors, flux_in, side_faces}
use Rattle.flux_correct.specs.Boxes.{SumsBelow}
use Rattle.flux_correct.proofs.FaceBoxes.{refined_faces}
use Rattle.correction_laws.proofs.Digits.{few_halves}
use Rattle.upwind_fluxes.specs.declared.donor.Donor.{Donor}
use Rattle.upwind_fluxes.specs.declared.donor.Donor.TheVariants.{Below, Above}
use Rattle.upwind_fluxes.specs.Fluxes.{donor_total, flux_at, is_closed}
use Rattle.slope_kernel.specs.Slopes.{slope_flux, total_beside}
use Rattle.transport_kernel.specs.Update.{gain, gain_along, listed, loss, loss_along, sum_axes}
use Rattle.cycle_kernels.specs.Blocks.{CycleMesh, block_count, leaf_at}
use Rattle.cycle_kernels.specs.Lists.{with_ghosts}
use Rattle.cycle_kernels.specs.Pairs.{closed_sides, face_list, flux_through, paid_by}
use Rattle.cycle_kernel_laws.specs.Shown.{block_with, ghosts_from, mesh_with}
use Rattle.cycle_kernel_laws.proofs.Apart.{axis_three}
use Rattle.cycle_kernel_laws.proofs.Due.{leaf_here}
use Rattle.cycle_kernel_laws.proofs.Given.{three}
use Rattle.cycle_kernel_laws.proofs.OwnPairs.{face_at}
use Rattle.cycle_kernel_laws.proofs.Sees.{block_is, holds_own, mesh_is}
use Rattle.cycle_kernel_bounds.specs.Bounds.{HoldBounded, SumsMayBeGathered, UpdatesMayPass}
use Rattle.cycle_kernel_bounds.proofs.Exchanges.{AllBelow, ghosts_below, list_below, own_below}

-- the rate of a face fits
rates_added : (dims level : ℕ) (f : Field) (m : Moves) → dims ≤ 3 → rate_sum dims level f m ≡ sum_to dims (both_rates f m level)
rates_added zero level f m h = refl
rates_added (suc zero) level f m h = refl
rates_added (suc (suc zero)) level f m h = refl
rates_added (suc (suc (suc zero))) level f m h = refl
rates_added (suc (suc (suc (suc n)))) level f m h = absurd (omega arith)

rate_by : (moved : Bool) (v k low high : ℕ) → low ≤ high → cond moved (rate v k low) 0 ≤ cond moved (rate v k high) 0
rate_by true v k low high h = rate_grows v k low high h
rate_by false v k low high h = omega arith

rate_up : (w : CycleMesh) (f axis low high : ℕ) (donor : Donor) → low ≤ high → paid_by donor (rates_at w.settings f axis low) ≤ paid_by donor (rates_at w.settings f axis high)
rate_up w f axis low high Below h = rate_by (has WithFluxes (field_at w.settings f).flags) (upwards (velocity (moves_at w.settings f) axis)) (moves_at w.settings f).k low high h
rate_up w f axis low high Above h = rate_by (has WithFluxes (field_at w.settings f).flags) (downwards (velocity (moves_at w.settings f) axis)) (moves_at w.settings f).k low high h

one_of_both : (w : CycleMesh) (f axis level : ℕ) (donor : Donor) → paid_by donor (rates_at w.settings f axis level) ≤ both_rates (field_at w.settings f) (moves_at w.settings f) level axis
one_of_both w f axis level Below = omega arith
one_of_both w f axis level Above = omega arith

leaf_level : (w : CycleMesh) (totals : List (List (List ℕ))) (f b : ℕ) (lists : ℕ → List ℕ) (hold : HoldBounded w totals f lists) → b < block_count w → (leaf_at w b).level ≤ hold.bounded.finest
leaf_level w totals f b lists hold few = elim (cases_eq (leaf_at w b).level 0) [
  | inl root ↦ omega arith
  | inr deep ↦
      let leaf = leaf_here w.mesh b hold.cycle.mesh few in
      let below = hold.bounded.coarse (parent w.mesh.shape.dims (leaf_at w b)) (node_parent w.mesh.shape (is_inner w.mesh) (leaf_at w b) (omega arith) leaf.node) in
      omega (arith, below)
]

less_fits : (order r s den : ℕ) → r ≤ s → IsFittingSum order s den → IsFittingSum order r den
less_fits order r s den h fit = record { once = let a = fit.once in omega (arith, a); second = λ e. let a = fit.second e in omega (arith, a) }

rate_fits : (w : CycleMesh) (totals : List (List (List ℕ))) (f b axis : ℕ) (lists : ℕ → List ℕ) (donor : Donor) → HoldBounded w totals f lists → b < block_count w → axis < w.mesh.shape.dims →
    IsFittingSum (moves_at w.settings f).order (paid_by donor (rates_at w.settings f axis (leaf_at w b).level)) w.settings.denominator
rate_fits w totals f b axis lists donor hold few used =
    let top : ℕ = hold.bounded.finest in
    let up = rate_up w f axis (leaf_at w b).level top donor (leaf_level w totals f b lists hold few) in
    let one = one_of_both w f axis top donor in
    let part = term_least w.mesh.shape.dims (both_rates (field_at w.settings f) (moves_at w.settings f) top) axis used in
    let all = rates_added w.mesh.shape.dims top (field_at w.settings f) (moves_at w.settings f) hold.cycle.mesh.shape.most in
    less_fits (moves_at w.settings f).order (paid_by donor (rates_at w.settings f axis (leaf_at w b).level)) (rate_sum w.mesh.shape.dims top (field_at w.settings f) (moves_at w.settings f)) w.settings.denominator (omega (arith, up, one, part, all)) hold.bounded.rates.fits

-- what passes a face is small
pays_little : (closed : Bool) (order behind here ahead r den bound : ℕ) → 1 ≤ den → IsFittingSum order r den → here < bound → cond closed 0 (portion (reconstructed order behind here ahead) r den) < bound
pays_little true order behind here ahead r den bound some fit less = omega arith
pays_little false order behind here ahead r den bound some fit less =
    let a = portion_of_more (reconstructed order behind here ahead) (most order here) r den some (reconstructed_most order behind here ahead) in
    let b = most_within order here r den some fit in
    omega (arith, a, b)

flux_small : (w : CycleMesh) (totals : List (List (List ℕ))) (f b : ℕ) (lists : ℕ → List ℕ) (donor : Donor) (cells : List ℕ) (axis : ℕ) (i : List ℕ) → HoldBounded w totals f lists → b < block_count w → axis < w.mesh.shape.dims → AllBelow (2 ^ 62) cells →
    flux_through w b f donor cells axis i < 2 ^ 62
flux_small w totals f b lists donor cells axis i hold few used small = by donor ((moves_at w.settings f).order == 2) refl
  where
    by : (d : Donor) (t : Bool) → ((moves_at w.settings f).order == 2) ≡ t →
        cond t (slope_flux w.layout d (paid_by d (rates_at w.settings f axis (leaf_at w b).level)) w.settings.denominator (closed_sides w b) cells axis i)
        (flux_at w.layout d (paid_by d (rates_at w.settings f axis (leaf_at w b).level)) w.settings.denominator (closed_sides w b) cells axis i) < 2 ^ 62
    by d false e =
        let fit = rate_fits w totals f b axis lists d hold few used in
        first (is_closed w.layout (closed_sides w b) axis i) (donor_total w.layout d cells axis i) (paid_by d (rates_at w.settings f axis (leaf_at w b).level)) w.settings.denominator hold.cycle.denominator fit.once (small _)
      where
        first : (closed : Bool) (q r den : ℕ) → 1 ≤ den → r ≤ den → q < 2 ^ 62 → cond closed 0 (portion q r den) < 2 ^ 62
        first true q r den some h less = lit< tt
        first false q r den some h less = let a = portion_within q r den some h in omega (arith, a, less)
    by Below true e =
        let fit = rate_fits w totals f b axis lists Below hold few used in
        let two : (moves_at w.settings f).order ≡ 2 = eqb-true (moves_at w.settings f).order 2 e in
        pays_little (is_closed w.layout (closed_sides w b) axis i) 2 (total_beside w.layout cells axis 0 i) (total_beside w.layout cells axis 1 i) (total_beside w.layout cells axis 2 i) (paid_by Below (rates_at w.settings f axis (leaf_at w b).level)) w.settings.denominator (2 ^ 62)
        hold.cycle.denominator (subst (λ n. IsFittingSum n (paid_by Below (rates_at w.settings f axis (leaf_at w b).level)) w.settings.denominator) two fit) (small _)
    by Above true e =
        let fit = rate_fits w totals f b axis lists Above hold few used in
        let two : (moves_at w.settings f).order ≡ 2 = eqb-true (moves_at w.settings f).order 2 e in
        pays_little (is_closed w.layout (closed_sides w b) axis i) 2 (total_beside w.layout cells axis 3 i) (total_beside w.layout cells axis 2 i) (total_beside w.layout cells axis 1 i) (paid_by Above (rates_at w.settings f axis (leaf_at w b).level)) w.settings.denominator (2 ^ 62)
        hold.cycle.denominator (subst (λ n. IsFittingSum n (paid_by Above (rates_at w.settings f axis (leaf_at w b).level)) w.settings.denominator) two fit) (small _)

-- sums of at most four numbers
sum_most : (n : ℕ) (f : ℕ → ℕ) → ((k : ℕ) → k < n → f k < 2 ^ 62) → sum_to n f ≤ n * (2 ^ 62 - 1)
sum_most zero f h = omega arith
sum_most (suc n) f h = let a = sum_most n f (λ k l. h k (omega (arith, l))) in let b = h n (omega arith) in omega (arith, a, b)

four_fit : (n : ℕ) (f : ℕ → ℕ) → n ≤ 4 → ((k : ℕ) → k < n → f k < 2 ^ 62) → sum_to n f < 2 ^ 64
four_fit n f few h = let a = sum_most n f h in omega (arith, a, few)

few_parts : (dims axis : ℕ) → axis < dims → dims ≤ 3 → count_of (face_factors dims axis) ≤ 4
few_parts dims axis h l = elim (cases_lt 4 (count_of (face_factors dims axis))) [
  | inl more ↦ absurd (omega (arith, few_halves dims axis 4 h l more))
  | inr few ↦ few
]

-- faces at a side are faces of the block
end_face : (n u : ℕ) (high : Bool) → u < 1 → cond high n 0 + u < n + 1
end_face n u true h = omega arith
end_face n u false h = omega arith

same_below : (u n : ℕ) → u < n → 0 + u < n
same_below u n h = omega arith

side_within : (l : Layout) (axis : ℕ) (high : Bool) (p : List ℕ) → axis < 3 → IsWithin (side_faces l axis high).extents p → IsWithin (face_extents l axis) (added (side_faces l axis high).low p)
side_within l zero high p h w = record { along1 = end_face (slice_index l.cells 0) (slice_index p 0) high w.along1; along2 = same_below (slice_index p 1) (slice_index l.cells 1) w.along2; along3 = same_below (slice_index p 2) (slice_index l.cells 2) w.along3 }
side_within l (suc zero) high p h w = record { along1 = same_below (slice_index p 0) (slice_index l.cells 0) w.along1; along2 = end_face (slice_index l.cells 1) (slice_index p 1) high w.along2; along3 = same_below (slice_index p 2) (slice_index l.cells 2) w.along3 }
side_within l (suc (suc zero)) high p h w = record { along1 = same_below (slice_index p 0) (slice_index l.cells 0) w.along1; along2 = same_below (slice_index p 1) (slice_index l.cells 1) w.along2; along3 = end_face (slice_index l.cells 2) (slice_index p 2) high w.along3 }
side_within l (suc (suc (suc a))) high p h w = absurd (omega arith)

gathered_small : (w : CycleMesh) (totals : List (List (List ℕ))) (f b axis : ℕ) (high : Bool) (lists : ℕ → List ℕ) (donor : Donor) → HoldBounded w totals f lists → b < block_count w → axis < w.layout.dims →
    SumsBelow (2 ^ 64) w.layout axis high (face_list w.layout (flux_through w b f donor (with_ghosts w.layout (lists b) (ghosts_from w lists b f))))
gathered_small w totals f b axis high lists donor hold few used u inside =
    let l : Layout = w.layout in
    let cells : List ℕ = with_ghosts l (lists b) (ghosts_from w lists b f) in
    let in_mesh : axis < w.mesh.shape.dims = subst (λ d. axis < d) hold.cycle.layout.dims used in
    let h = axis_three w axis hold.cycle in_mesh in
    let small = list_below w totals f b lists (ghosts_from w lists b f) hold few (ghosts_below w totals f b lists hold) in
    four_fit (count_of (face_factors l.dims axis)) (λ j. flux_in l axis (side_faces l axis high) (face_list l (flux_through w b f donor cells)) (part_index (face_factors l.dims axis) u j)) (few_parts l.dims axis used l.sound.most)
    (λ j less.
    let p : List ℕ = part_index (face_factors l.dims axis) u j in
    let part : IsWithin (side_faces l axis high).extents p = subst (λ (e : List ℕ). IsWithin e p) (refined_faces l axis high l.sound used) (part_within (face_factors l.dims axis) (coarse_extents l axis) u j less inside) in
    let v : List ℕ = added (side_faces l axis high).low p in
    subst (λ n. n < 2 ^ 62) (sym (face_at l (flux_through w b f donor cells) axis v used h (side_within l axis high p h part))) (flux_small w totals f b lists donor cells axis (three v) hold few in_mesh small))

pub sums_may_be_gathered : SumsMayBeGathered
sums_may_be_gathered w totals f b axis high lists hold few used = record {
  right = gathered_small w totals f b axis high lists Below hold few used;
  left = gathered_small w totals f b axis high lists Above hold few used;
}

-- updates
axes_sum : (n : ℕ) (each : ℕ → ℕ) → sum_axes n each ≡ sum_to n each
axes_sum zero each = refl
axes_sum (suc n) each = ap (λ t. t + each n) (axes_sum n each)

pub updates_may_pass : UpdatesMayPass
updates_may_pass w totals f b lists rest right left hold few pairs next = record {
  pays = λ i inside. let x = facts i inside in omega (arith, x.0, x.2, x.3);
  small = λ i inside. let x = facts i inside in omega (arith, x.0, x.1, x.2, x.3, x.4, x.5);
}
  where
    facts : (i : List ℕ) → IsWithin w.layout.cells i →
        (loss w.layout.dims (listed w.layout right) (listed w.layout left) i ≡ stages.loss w.settings (mesh_with w totals) f (cell_in (mesh_with w totals) (leaf_at w b) i))
        × (gain w.layout.dims (listed w.layout right) (listed w.layout left) i ≡ stages.gain w.settings (mesh_with w totals) f (cell_in (mesh_with w totals) (leaf_at w b) i))
        × (slice_index (with_ghosts w.layout (lists b) rest) (own_place w.layout i) ≡ stored (mesh_with w totals) f (cell_in (mesh_with w totals) (leaf_at w b) i))
        × (stages.loss w.settings (mesh_with w totals) f (cell_in (mesh_with w totals) (leaf_at w b) i) ≤ stored (mesh_with w totals) f (cell_in (mesh_with w totals) (leaf_at w b) i))
        × (stages.staged w.settings (mesh_with w totals) f (cell_in (mesh_with w totals) (leaf_at w b) i) < 2 ^ 62)
        × (stored (mesh_with w totals) f (cell_in (mesh_with w totals) (leaf_at w b) i) < 2 ^ 62)
    facts i inside =
        let t : FieldBlock = block_with w totals f b in
        let m : Mesh = mesh_with w totals in
        let c : Loc = cell_in m (leaf_at w b) i in
        let sound = block_is w totals f b hold.cycle few in
        let own = holds_own w totals f b lists rest hold.held few in
        let within : IsWithin m.cells i = subst (λ (n : List ℕ). IsWithin n i) hold.cycle.layout.cells inside in
        let by = update_is_stage t (with_ghosts w.layout (lists b) rest) right left i sound own pairs inside in
        let held = hold.held b i few inside in
        let little = own_below w totals f b lists i hold few inside in (
          axes_sum w.layout.dims (loss_along (listed w.layout right) (listed w.layout left) i) ∙ by.losses,
          axes_sum w.layout.dims (gain_along (listed w.layout right) (listed w.layout left) i) ∙ by.gains,
          own i inside,
          pays_at_most w.settings m f hold.bounded.finest c (mesh_is w totals hold.cycle) hold.bounded.coarse hold.bounded.rates (cell_inside m (leaf_at w b) i (leaf_here w.mesh b hold.cycle.mesh few).inside within) (on_leaf t i sound inside),
          next i inside,
          omega (arith, held, little),
        )
