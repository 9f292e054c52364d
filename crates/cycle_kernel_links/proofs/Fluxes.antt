-- Lists of what passes faces, and updates by them.
use Rattle.std.proofs.Common.{◌≡◌, ◌==◌, inl, inr, ℕ, ◌+◌, ◌-◌, ◌<◌, Bool, true, false, ◌&&◌, ◌||◌, cond, not, nat_lt, List, ◌++◌, length, refl, arith, ap, subst, sym, ◌∙◌, slice_index}
use Rattle.std.proofs.lemmas.Bool.{cases_lt, false≢true, ltb-true}
use Rattle.std.proofs.lemmas.List.{length-append}
use Rattle.mesh_num.specs.Portion.{portion}
use Rattle.mesh_rules.specs.Fields.{FaceRates, moves_at, rates_at}
use Rattle.block_layout.specs.declared.layout.Layout.{Layout}
use Rattle.block_layout.specs.Indices.{IsWithin, added, count_of, index_of}
use Rattle.block_layout.specs.Layouts.{interior_len, len, widths}
use Rattle.block_layout.specs.Faces.{face_count, face_extents, face_number, faces_along, first_face}
use Rattle.block_layout.specs.Regions.{cell_place, covers, interior}
use Rattle.block_layout.proofs.Boxes.{index_below, index_number}
use Rattle.block_geometry.specs.Blocks.{own_place}
use Rattle.upwind_fluxes.specs.declared.donor.Donor.{Donor}
use Rattle.upwind_fluxes.specs.declared.donor.Donor.TheVariants.{Below, Above}
use Rattle.upwind_fluxes.specs.declared.rates.LevelRates.{LevelRates}
use Rattle.upwind_fluxes.specs.Fluxes.{AreFluxes, donor_total, flux_at, is_at_side, is_closed, is_closed_side}
use Rattle.upwind_fluxes.specs.Rates.{along, rate_of}
use Rattle.slope_kernel.specs.Slopes.{AreSlopeFluxes, donor_at, slope_flux}
use Rattle.flux_correct.specs.Sums.{flux_part}
use Rattle.transport_kernel.specs.Update.{gain, listed, loss}
use Rattle.letter_laws.proofs.Boxes.{table_at, table_same}
use Rattle.cycle_kernels.specs.Blocks.{CycleMesh, leaf_at}
use Rattle.cycle_kernels.specs.Lists.{is_own, own_totals}
use Rattle.cycle_kernels.specs.Pairs.{FacePairs, closed_sides, face_list, flux_through, list_along, paid_by, updated_at}
use Rattle.cycle_kernels.specs.Letters.{no_part}
use Rattle.cycle_kernels.proofs.Tables.{table_long}
use Rattle.cycle_kernels.proofs.Zeros.{same_pairs}
use Rattle.cycle_kernel_laws.proofs.Apart.{is_covered}
use Rattle.cycle_kernel_laws.proofs.Given.{index_again, own_inside, own_room, three}
use Rattle.cycle_kernel_laws.proofs.OwnPairs.{closed_is, face_at, flux_three, order_is}
use Rattle.cycle_kernel_links.specs.Pairs.{AreRatesOn, ClosesSides, FluxesAreListed, GatheredAreSent, UpdatesAreThose}
use Rattle.cycle_kernel_links.proofs.Lists.{same_lists, whole_again}

-- a list of faces is known by its faces
along_axis : (l : Layout) (list : List ℕ) (each : ℕ → List ℕ → ℕ) (axis q k : ℕ) → axis < 3 → q < faces_along l axis → k ≡ first_face l axis + q →
    ((axis : ℕ) (i : List ℕ) → axis < l.dims → axis < 3 → IsWithin (face_extents l axis) i → slice_index list (face_number l axis i) ≡ each axis (three i)) → slice_index (face_list l each) k ≡ slice_index list k
along_axis l list each axis q k h few at has =
    by (nat_lt axis l.dims) refl
  where
    by : (t : Bool) → nat_lt axis l.dims ≡ t → slice_index (face_list l each) k ≡ slice_index list k
    by true used =
        let in_use : axis < l.dims = ltb-true axis l.dims used in
        let e : List ℕ = face_extents l axis in
        let i : List ℕ = index_of e q in
        let less : q < count_of e = subst (λ (t : Bool). q < cond t (count_of (face_extents l axis)) 0) used few in
        let inside = index_below e q less in
        let again = index_number e q in
        let number : face_number l axis i ≡ k = ap (λ v. first_face l axis + v) again ∙ sym at in
        ap (slice_index (face_list l each)) (sym number) ∙ face_at l each axis i in_use h inside ∙ sym (has axis i in_use h inside) ∙ ap (slice_index list) number
    by false used = absurd (none (subst (λ (t : Bool). q < cond t (count_of (face_extents l axis)) 0) used few))
      where
        none : q < 0 → ⊥
        none h = omega arith

long_along : (l : Layout) (axis : ℕ) (each : ℕ → List ℕ → ℕ) → length (list_along l axis each) ≡ faces_along l axis
long_along l axis each = table_long (faces_along l axis) (λ k. each axis (index_of (face_extents l axis) k))

pub faces_long : (l : Layout) (each : ℕ → List ℕ → ℕ) → length (face_list l each) ≡ face_count l
faces_long l each =
    let a = length-append (list_along l 0 each) (list_along l 1 each ++ list_along l 2 each) in
    let b = length-append (list_along l 1 each) (list_along l 2 each) in
    let p = long_along l 0 each in
    let q = long_along l 1 each in
    let r = long_along l 2 each in
    omega (arith, a, b, p, q, r)

pub one_list : (l : Layout) (list : List ℕ) (each : ℕ → List ℕ → ℕ) → length list ≡ face_count l →
    ((axis : ℕ) (i : List ℕ) → axis < l.dims → axis < 3 → IsWithin (face_extents l axis) i → slice_index list (face_number l axis i) ≡ each axis (three i)) → face_list l each ≡ list
one_list l list each long has =
    same_lists (face_list l each) list (face_count l) (faces_long l each) long (λ k few.
    elim (cases_lt k (faces_along l 0)) [
      | inl first ↦ along_axis l list each 0 k k (omega arith) first (omega arith) has
      | inr more ↦ elim (cases_lt (k - faces_along l 0) (faces_along l 1)) [
        | inl second ↦ along_axis l list each 1 (k - faces_along l 0) k (omega arith) second (omega arith) has
        | inr last ↦ along_axis l list each 2 (k - (faces_along l 0 + faces_along l 1)) k (omega arith) (omega arith) (omega arith) has
      ]
    ])

-- what passes by other rates and sides that are the same
same_rate : (w : CycleMesh) (f b : ℕ) (rates : LevelRates) (donor : Donor) (axis : ℕ) → AreRatesOn w f b rates → axis < w.layout.dims → rate_of (along rates axis) donor ≡ paid_by donor (rates_at w.settings f axis (leaf_at w b).level)
same_rate w f b rates Below axis are used = are.right axis used
same_rate w f b rates Above axis are used = are.left axis used

closed_same : (w : CycleMesh) (b : ℕ) (closed : List Bool) (axis : ℕ) (i : List ℕ) → ClosesSides w b closed → axis < w.layout.dims → axis < 3 → is_closed w.layout closed axis i ≡ is_closed w.layout (closed_sides w b) axis i
closed_same w b closed axis i closes used h =
    ap (λ (p : Bool). (p && is_at_side w.layout axis false i) || (is_closed_side closed axis true && is_at_side w.layout axis true i)) (closes axis false used ∙ sym (closed_is w b axis false h))
    ∙ ap (λ (p : Bool). (is_closed_side (closed_sides w b) axis false && is_at_side w.layout axis false i) || (p && is_at_side w.layout axis true i)) (closes axis true used ∙ sym (closed_is w b axis true h))

payment_same : (t u : Bool) (total r q d e : ℕ) → t ≡ u → r ≡ q → d ≡ e → cond t 0 (portion total r d) ≡ cond u 0 (portion total q e)
payment_same t u total r q d e a b c = ap (λ (x : Bool). cond x 0 (portion total r d)) a ∙ ap (λ x. cond u 0 (portion total x d)) b ∙ ap (λ x. cond u 0 (portion total q x)) c

-- by the first order, and by the second
first_through : (w : CycleMesh) (f b : ℕ) (rates : LevelRates) (closed : List Bool) (donor : Donor) (cells list : List ℕ) → AreRatesOn w f b rates → ClosesSides w b closed → (moves_at w.settings f).order ≡ 1 →
    length list ≡ face_count w.layout → AreFluxes w.layout donor rates closed cells list → face_list w.layout (flux_through w b f donor cells) ≡ list
first_through w f b rates closed donor cells list are closes order long fluxes =
    one_list w.layout list (flux_through w b f donor cells) long (λ axis i used h inside.
    let pays : FaceRates = rates_at w.settings f axis (leaf_at w b).level in
    let first : ((moves_at w.settings f).order == 2) ≡ false = ap (λ n. n == 2) order in
    fluxes axis i used inside
    ∙ payment_same (is_closed w.layout closed axis i) (is_closed w.layout (closed_sides w b) axis i) (donor_total w.layout donor cells axis i) (rate_of (along rates axis) donor) (paid_by donor pays) rates.denominator w.settings.denominator
    (closed_same w b closed axis i closes used h) (same_rate w f b rates donor axis are used) are.denominator
    ∙ sym (ap (λ (t : Bool). cond t (slope_flux w.layout donor (paid_by donor pays) w.settings.denominator (closed_sides w b) cells axis i) (flux_at w.layout donor (paid_by donor pays) w.settings.denominator (closed_sides w b) cells axis i)) first)
    ∙ sym (flux_three w b f donor cells axis i h))

second_through : (w : CycleMesh) (f b : ℕ) (rates : LevelRates) (closed : List Bool) (donor : Donor) (cells list : List ℕ) → AreRatesOn w f b rates → ClosesSides w b closed → (moves_at w.settings f).order ≡ 2 →
    length list ≡ face_count w.layout → AreSlopeFluxes w.layout donor rates closed cells list → face_list w.layout (flux_through w b f donor cells) ≡ list
second_through w f b rates closed donor cells list are closes order long fluxes =
    one_list w.layout list (flux_through w b f donor cells) long (λ axis i used h inside.
    let pays : FaceRates = rates_at w.settings f axis (leaf_at w b).level in
    let second : ((moves_at w.settings f).order == 2) ≡ true = ap (λ n. n == 2) order in
    fluxes axis i used inside
    ∙ payment_same (is_closed w.layout closed axis i) (is_closed w.layout (closed_sides w b) axis i) (donor_at w.layout donor cells axis i) (rate_of (along rates axis) donor) (paid_by donor pays) rates.denominator w.settings.denominator
    (closed_same w b closed axis i closes used h) (same_rate w f b rates donor axis are used) are.denominator
    ∙ sym (ap (λ (t : Bool). cond t (slope_flux w.layout donor (paid_by donor pays) w.settings.denominator (closed_sides w b) cells axis i) (flux_at w.layout donor (paid_by donor pays) w.settings.denominator (closed_sides w b) cells axis i)) second)
    ∙ sym (flux_three w b f donor cells axis i h))

pub fluxes_are_listed : FluxesAreListed
fluxes_are_listed w f b rates closed cells pairs is are closes long lists =
    ap (λ (v : List ℕ). through v) (whole_again w.layout cells long)
    ∙ elim (order_is w f is) [
      | inl first ↦ same_pairs (through cells) pairs.right pairs.left (first_through w f b rates closed Below cells pairs.right are closes first lists.right_long (lists.first_right first)) (first_through w f b rates closed Above cells pairs.left are closes first lists.left_long (lists.first_left first))
      | inr second ↦ same_pairs (through cells) pairs.right pairs.left (second_through w f b rates closed Below cells pairs.right are closes second lists.right_long (lists.second_right second)) (second_through w f b rates closed Above cells pairs.left are closes second lists.left_long (lists.second_left second))
    ]
  where
    through : List ℕ → FacePairs
    through v = record { right = face_list w.layout (flux_through w b f Below v); left = face_list w.layout (flux_through w b f Above v) }

pub gathered_are_sent : GatheredAreSent
gathered_are_sent w x pairs due = sym (ap (λ (t : Bool). cond t (flux_part w.layout x.axis (not x.high) pairs.right pairs.left) (no_part w x)) due)

-- updates
pub own_is_own : (l : Layout) (i : List ℕ) → IsWithin l.cells i → is_own l (own_place l i) ≡ true
own_is_own l i w = ap (λ (v : List ℕ). covers (interior l) v) (index_again (widths l) (added (interior l).low i) (own_room l i w)) ∙ is_covered (interior l) (added (interior l).low i) (own_inside l i w)

pub updates_are_those : UpdatesAreThose
updates_are_those w old new pairs passed stays = record {
  own = table_same (interior_len l) (λ k. slice_index new (cell_place l (interior l) k)) (updated_at w (own_totals l old) pairs) (λ k few.
      let i : List ℕ = index_of l.cells k in
      passed i (index_below l.cells k few)
      ∙ ap (λ v. v + gain l.dims (listed l pairs.right) (listed l pairs.left) i - loss l.dims (listed l pairs.right) (listed l pairs.left) i) (sym (table_at (interior_len l) (λ k. slice_index old (cell_place l (interior l) k)) k few)));
  ghosts = table_same (len l) (λ n. cond (is_own l n) 0 (slice_index new n)) (λ n. cond (is_own l n) 0 (slice_index old n)) (λ n few. by n (is_own l n) refl);
}
  where
    l : Layout
    l = w.layout

    by : (n : ℕ) (t : Bool) → is_own w.layout n ≡ t → cond t 0 (slice_index new n) ≡ cond t 0 (slice_index old n)
    by n true own = refl
    by n false ghost = stays n (λ i inside e. false≢true (sym ghost ∙ ap (is_own w.layout) e ∙ own_is_own w.layout i inside))
