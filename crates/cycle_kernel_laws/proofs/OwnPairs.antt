-- What passes the faces of a block is the mesh's own pairs.
use Rattle.std.proofs.Common.{◌≡◌, ◌==◌, ◌⊎◌, inl, inr, ℕ, zero, suc, ◌+◌, ◌<◌, ◌≤◌, Bool, true, false, cond, pos, List, [], ◌∷◌, ◌++◌, length, replicate, refl, arith, ap, subst, sym, ◌∙◌, slice_index}
use Rattle.std.specs.List.{slice_index_or}
use Rattle.std.proofs.lemmas.Bool.{cases_lt}
use Rattle.std.proofs.lemmas.List.{get_or-append-add, get_or_append_left, get_or_past}
use Rattle.std.proofs.lemmas.List.Elements.{All-get_or}
use Rattle.morton_order.specs.Neighbours.{across}
use Rattle.deck_entries.specs.SoundEntries.{IsMoves}
use Rattle.deck_entries.specs.declared.entries.Moves.{Moves}
use Rattle.problem_set.specs.declared.rates.Rates.{Rates}
use Rattle.mesh_rules.specs.Fields.{FaceRates, kind_at, moves_at, rates_at}
use Rattle.block_layout.specs.declared.layout.Layout.{Layout}
use Rattle.block_layout.specs.Indices.{IsWithin, index_of, number_of}
use Rattle.block_layout.specs.Faces.{face_extents, face_number, faces_along}
use Rattle.block_layout.proofs.Boxes.{number_bound}
use Rattle.block_layout.proofs.FaceNumbers.{faces_in_use}
use Rattle.block_laws.specs.Rates.{AreRatesOf, ClosesReflecting, reflects}
use Rattle.block_laws.proofs.OwnPairs.{first_order_pairs}
use Rattle.kernel_laws.proofs.Slopes.{second_order_pairs}
use Rattle.upwind_fluxes.specs.declared.donor.Donor.{Donor}
use Rattle.upwind_fluxes.specs.declared.donor.Donor.TheVariants.{Below, Above}
use Rattle.upwind_fluxes.specs.declared.rates.LevelRates.{LevelRates}
use Rattle.upwind_fluxes.specs.Fluxes.{AreFluxes, flux_at, is_closed_side}
use Rattle.upwind_fluxes.specs.Rates.{along, rate_of}
use Rattle.slope_kernel.specs.Slopes.{AreSlopeFluxes, slope_flux}
use Rattle.letter_laws.proofs.Boxes.{table_at}
use Rattle.cycle_kernels.specs.Blocks.{CycleMesh, leaf_at}
use Rattle.cycle_kernels.specs.Laws.{IsCycleMesh}
use Rattle.cycle_kernels.specs.Lists.{with_ghosts}
use Rattle.cycle_kernels.specs.Pairs.{closed_sides, face_list, flux_through, list_along, paid_by}
use Rattle.cycle_kernels.proofs.Tables.{table_long}
use Rattle.cycle_kernel_laws.specs.Shown.{FluxesAreOwnPairs, block_with, ghosts_from, pairs_from}
use Rattle.cycle_kernel_laws.proofs.Apart.{axis_three}
use Rattle.cycle_kernel_laws.proofs.Given.{index_again, three}
use Rattle.cycle_kernel_laws.proofs.Sees.{block_is, ghosts_see, holds_own}

-- the number of a list of faces at a face
long_along : (l : Layout) (axis : ℕ) (each : ℕ → List ℕ → ℕ) → length (list_along l axis each) ≡ faces_along l axis
long_along l axis each = table_long (faces_along l axis) (λ k. each axis (index_of (face_extents l axis) k))

along_at : (l : Layout) (axis : ℕ) (each : ℕ → List ℕ → ℕ) (i : List ℕ) → axis < l.dims → IsWithin (face_extents l axis) i → slice_index (list_along l axis each) (number_of (face_extents l axis) i) ≡ each axis (three i)
along_at l axis each i used w =
    table_at (faces_along l axis) (λ k. each axis (index_of (face_extents l axis) k)) (number_of (face_extents l axis) i) (subst (λ n. number_of (face_extents l axis) i < n) (sym (faces_in_use l axis used)) (number_bound (face_extents l axis) i w))
    ∙ ap (λ (v : List ℕ). each axis v) (index_again (face_extents l axis) i w)

few_along : (l : Layout) (axis : ℕ) (each : ℕ → List ℕ → ℕ) (i : List ℕ) → axis < l.dims → IsWithin (face_extents l axis) i → number_of (face_extents l axis) i < length (list_along l axis each)
few_along l axis each i used w = subst (λ n. number_of (face_extents l axis) i < n) (sym (long_along l axis each ∙ faces_in_use l axis used)) (number_bound (face_extents l axis) i w)

past : (xs ys : List ℕ) (n k : ℕ) → length xs ≡ n → slice_index (xs ++ ys) (n + k) ≡ slice_index ys k
past xs ys n k e = ap (λ m. slice_index (xs ++ ys) (m + k)) (sym e) ∙ get_or-append-add xs ys k 0

pub face_at : (l : Layout) (each : ℕ → List ℕ → ℕ) (axis : ℕ) (i : List ℕ) → axis < l.dims → axis < 3 → IsWithin (face_extents l axis) i → slice_index (face_list l each) (face_number l axis i) ≡ each axis (three i)
face_at l each zero i used h w =
    let n : ℕ = number_of (face_extents l 0) i in
    let at : face_number l 0 i ≡ n = omega arith in
    ap (slice_index (face_list l each)) at ∙ get_or_append_left (list_along l 0 each) (list_along l 1 each ++ list_along l 2 each) 0 n (few_along l 0 each i used w) ∙ along_at l 0 each i used w
face_at l each (suc zero) i used h w =
    let n : ℕ = number_of (face_extents l 1) i in
    let at : face_number l 1 i ≡ faces_along l 0 + n = omega arith in
    ap (slice_index (face_list l each)) at
    ∙ past (list_along l 0 each) (list_along l 1 each ++ list_along l 2 each) (faces_along l 0) n (long_along l 0 each)
    ∙ get_or_append_left (list_along l 1 each) (list_along l 2 each) 0 n (few_along l 1 each i used w) ∙ along_at l 1 each i used w
face_at l each (suc (suc zero)) i used h w =
    let n : ℕ = number_of (face_extents l 2) i in
    let at : face_number l 2 i ≡ faces_along l 0 + (faces_along l 1 + n) = omega arith in
    ap (slice_index (face_list l each)) at
    ∙ past (list_along l 0 each) (list_along l 1 each ++ list_along l 2 each) (faces_along l 0) (faces_along l 1 + n) (long_along l 0 each)
    ∙ past (list_along l 1 each) (list_along l 2 each) (faces_along l 1) n (long_along l 1 each) ∙ along_at l 2 each i used w
face_at l each (suc (suc (suc a))) i used h w = absurd (omega arith)

-- the rates of a block, and its closed sides
abbrev pub level_rates : CycleMesh → ℕ → ℕ → LevelRates
level_rates w f b =
    let at : ℕ → Rates = λ axis. let r = rates_at w.settings f axis (leaf_at w b).level in record { right = r.right; left = r.left } in
    record { denominator = w.settings.denominator; axes = at 0 ∷ at 1 ∷ at 2 ∷ [] }

pub rates_are : (w : CycleMesh) (f b : ℕ) (donor : Donor) (axis : ℕ) → axis < 3 → rate_of (along (level_rates w f b) axis) donor ≡ paid_by donor (rates_at w.settings f axis (leaf_at w b).level)
rates_are w f b Below zero h = refl
rates_are w f b Below (suc zero) h = refl
rates_are w f b Below (suc (suc zero)) h = refl
rates_are w f b Above zero h = refl
rates_are w f b Above (suc zero) h = refl
rates_are w f b Above (suc (suc zero)) h = refl
rates_are w f b donor (suc (suc (suc a))) h = absurd (omega arith)

pub closed_is : (w : CycleMesh) (b axis : ℕ) (high : Bool) → axis < 3 → is_closed_side (closed_sides w b) axis high ≡ reflects (kind_at w.settings axis high) (across w.mesh.shape (leaf_at w b) axis high)
closed_is w b zero false h = refl
closed_is w b zero true h = refl
closed_is w b (suc zero) false h = refl
closed_is w b (suc zero) true h = refl
closed_is w b (suc (suc zero)) false h = refl
closed_is w b (suc (suc zero)) true h = refl
closed_is w b (suc (suc (suc a))) high h = absurd (omega arith)

pub flux_three : (w : CycleMesh) (b f : ℕ) (donor : Donor) (cells : List ℕ) (axis : ℕ) (i : List ℕ) → axis < 3 → flux_through w b f donor cells axis (three i) ≡ flux_through w b f donor cells axis i
flux_three w b f Below cells zero i h = refl
flux_three w b f Below cells (suc zero) i h = refl
flux_three w b f Below cells (suc (suc zero)) i h = refl
flux_three w b f Above cells zero i h = refl
flux_three w b f Above cells (suc zero) i h = refl
flux_three w b f Above cells (suc (suc zero)) i h = refl
flux_three w b f donor cells (suc (suc (suc a))) i h = absurd (omega arith)

-- the orders
default_order : (xs : List Moves) (f : ℕ) (d : Moves) → length xs ≤ f → d.order ≡ 1 → (slice_index_or xs f d).order ≡ 1
default_order xs f d few e = ap (λ (m : Moves). m.order) (get_or_past xs f d few) ∙ e

pub order_is : (w : CycleMesh) (f : ℕ) → IsCycleMesh w → ((moves_at w.settings f).order ≡ 1) ⊎ ((moves_at w.settings f).order ≡ 2)
order_is w f is = elim (cases_lt f (length w.settings.moves)) [
  | inl few ↦
      let sound = All-get_or IsMoves w.settings.moves f (record { v = replicate 3 (pos 0); k = 0; order = 1; entry = replicate 6 0 }) few is.fields.moves_sound in
      by (moves_at w.settings f).order sound.least_order sound.most_order
  | inr more ↦ inl (default_order w.settings.moves f (record { v = replicate 3 (pos 0); k = 0; order = 1; entry = replicate 6 0 }) more refl)
]
  where
    by : (n : ℕ) → 1 ≤ n → n ≤ 2 → (n ≡ 1) ⊎ (n ≡ 2)
    by zero h k = absurd (omega arith)
    by (suc zero) h k = inl refl
    by (suc (suc zero)) h k = inr refl
    by (suc (suc (suc n))) h k = absurd (omega arith)

-- what passes by the first order, and by the second
first_fluxes : (w : CycleMesh) (b f : ℕ) (donor : Donor) (cells : List ℕ) → IsCycleMesh w → (moves_at w.settings f).order ≡ 1 → AreFluxes w.layout donor (level_rates w f b) (closed_sides w b) cells (face_list w.layout (flux_through w b f donor cells))
first_fluxes w b f donor cells is order axis i used inside =
    let h = axis_three w axis is (subst (λ d. axis < d) is.layout.dims used) in
    let rates : FaceRates = rates_at w.settings f axis (leaf_at w b).level in
    let first : ((moves_at w.settings f).order == 2) ≡ false = ap (λ n. n == 2) order in
    face_at w.layout (flux_through w b f donor cells) axis i used h inside
    ∙ flux_three w b f donor cells axis i h
    ∙ ap (λ (t : Bool). cond t (slope_flux w.layout donor (paid_by donor rates) w.settings.denominator (closed_sides w b) cells axis i) (flux_at w.layout donor (paid_by donor rates) w.settings.denominator (closed_sides w b) cells axis i)) first
    ∙ ap (λ r. flux_at w.layout donor r w.settings.denominator (closed_sides w b) cells axis i) (sym (rates_are w f b donor axis h))

second_fluxes : (w : CycleMesh) (b f : ℕ) (donor : Donor) (cells : List ℕ) → IsCycleMesh w → (moves_at w.settings f).order ≡ 2 → AreSlopeFluxes w.layout donor (level_rates w f b) (closed_sides w b) cells (face_list w.layout (flux_through w b f donor cells))
second_fluxes w b f donor cells is order axis i used inside =
    let h = axis_three w axis is (subst (λ d. axis < d) is.layout.dims used) in
    let rates : FaceRates = rates_at w.settings f axis (leaf_at w b).level in
    let second : ((moves_at w.settings f).order == 2) ≡ true = ap (λ n. n == 2) order in
    face_at w.layout (flux_through w b f donor cells) axis i used h inside
    ∙ flux_three w b f donor cells axis i h
    ∙ ap (λ (t : Bool). cond t (slope_flux w.layout donor (paid_by donor rates) w.settings.denominator (closed_sides w b) cells axis i) (flux_at w.layout donor (paid_by donor rates) w.settings.denominator (closed_sides w b) cells axis i)) second
    ∙ ap (λ r. slope_flux w.layout donor r w.settings.denominator (closed_sides w b) cells axis i) (sym (rates_are w f b donor axis h))

pub are_own_pairs : FluxesAreOwnPairs
are_own_pairs w totals f b lists is holds few =
    let cells : List ℕ = with_ghosts w.layout (lists b) (ghosts_from w lists b f) in
    let block = block_is w totals f b is few in
    let rates : AreRatesOf (block_with w totals f b) (level_rates w f b) = record {
      denominator = refl;
      right = λ axis used. rates_are w f b Below axis (axis_three w axis is (subst (λ d. axis < d) is.layout.dims used));
      left = λ axis used. rates_are w f b Above axis (axis_three w axis is (subst (λ d. axis < d) is.layout.dims used));
    } in
    let closes : ClosesReflecting (block_with w totals f b) (closed_sides w b) = λ axis high used. closed_is w b axis high (axis_three w axis is (subst (λ d. axis < d) is.layout.dims used)) in
    let own = holds_own w totals f b lists (ghosts_from w lists b f) holds few in
    let sees = ghosts_see w totals f b lists is holds few in
    elim (order_is w f is) [
      | inl first ↦ first_order_pairs (block_with w totals f b) (level_rates w f b) (closed_sides w b) cells (pairs_from w lists b f).right (pairs_from w lists b f).left block first rates closes own sees
          (first_fluxes w b f Below cells is first) (first_fluxes w b f Above cells is first)
      | inr second ↦ second_order_pairs (block_with w totals f b) (level_rates w f b) (closed_sides w b) cells (pairs_from w lists b f).right (pairs_from w lists b f).left block second rates closes own sees
          (second_fluxes w b f Below cells is second) (second_fluxes w b f Above cells is second)
    ]
