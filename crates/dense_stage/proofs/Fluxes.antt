-- What passes each face of a block is below 2^62, and the mesh's own pairs are so.
use Rattle.std.proofs.Common.{◌≡◌, ℕ, ◌+◌, ◌*◌, ◌/◌, ◌^◌, ◌<◌, ◌≤◌, ◌⊎◌, inl, inr, Bool, true, false, cond, List, All, length, arith, subst, sym, ◌∙◌, slice_index}
use Rattle.std.proofs.lemmas.List.Elements.{All-get_or}
use Rattle.std.proofs.Math.ListN.{get_or-eq_default}
use Rattle.std.proofs.lemmas.Bool.{cases_lt}
use Rattle.mesh_num.specs.Portion.{portion}
use Rattle.mesh_laws.proofs.Portions.{portion_of_more, portion_within}
use Rattle.mesh_laws.proofs.Pays.{most_within}
use Rattle.mesh_rules.specs.Fields.{moves_at}
use Rattle.block_layout.specs.declared.layout.Layout.{Layout}
use Rattle.block_layout.specs.Indices.{with_along}
use Rattle.block_layout.specs.Layouts.{place}
use Rattle.upwind_fluxes.specs.Beside.{beside_face}
use Rattle.block_geometry.specs.Blocks.{FieldBlock, IsFieldBlock}
use Rattle.block_geometry.specs.Contents.{HasInterior, HasOwnPairs, SeesAround}
use Rattle.block_geometry.proofs.Seen.{three_axes}
use Rattle.upwind_fluxes.specs.declared.donor.Donor.{Donor}
use Rattle.upwind_fluxes.specs.declared.donor.Donor.TheVariants.{Below, Above}
use Rattle.upwind_fluxes.specs.declared.rates.LevelRates.{LevelRates}
use Rattle.upwind_fluxes.specs.Fluxes.{AreFluxes, donor_total, is_closed}
use Rattle.upwind_fluxes.specs.Rates.{AreProper, along, rate_of}
use Rattle.stage_rules.specs.Rules.{limited}
use Rattle.slope_kernel.specs.Slopes.{AreSlopeFluxes, donor_at, total_beside}
use Rattle.block_laws.specs.Rates.{AreRatesOf, ClosesReflecting}
use Rattle.block_laws.proofs.OwnPairs.{face_within, first_order_pairs}
use Rattle.kernel_laws.proofs.Slopes.{second_order_pairs}
use Rattle.dense_stage.specs.Blocks.{AreBelow, HasOwn}
use Rattle.leaf_stages.specs.Rates.{AreFluxesBy, FitOrder}

-- what stands in a list of numbers below 2^62, or nothing past its end
pub read_small : (cells : List ℕ) → All (λ t. t < 2 ^ 62) cells → (k : ℕ) → slice_index cells k < 2 ^ 62
read_small cells small k = elim (cases_lt k (length cells)) [
  | inl inside ↦ All-get_or (λ t. t < 2 ^ 62) cells k 0 inside small
  | inr past ↦ subst (λ v. v < 2 ^ 62) (sym (get_or-eq_default cells 0 past)) (omega arith)
]

-- a portion by a rate of at most the denominator, nothing through a closed face
paid_small : (closed : Bool) (t rate den bound : ℕ) → 1 ≤ den → rate ≤ den → t < bound → cond closed 0 (portion t rate den) < bound
paid_small true t rate den bound some fit small = omega arith
paid_small false t rate den bound some fit small = let a = portion_within t rate den some fit in omega arith

-- by the second order at most what the paying cell has
limited_most : (behind here ahead : ℕ) → limited behind here ahead ≤ here + here / 2
limited_most behind here ahead = omega arith

slope_small : (closed : Bool) (t here rate den bound : ℕ) → 1 ≤ den → 3 * rate ≤ 2 * den → t ≤ here + here / 2 → here < bound → cond closed 0 (portion t rate den) < bound
slope_small true t here rate den bound some fit more small = omega arith
slope_small false t here rate den bound some fit more small =
    let a = portion_of_more t (here + here / 2) rate den some more in
    let b : portion (here + here / 2) rate den ≤ here = most_within 2 here rate den some (record { once = omega arith; second = λ e. fit }) in
    omega arith

rate_proper : (rates : LevelRates) (donor : Donor) (axis : ℕ) → AreProper rates → axis < 3 → rate_of (along rates axis) donor ≤ rates.denominator
rate_proper rates Below axis proper h = proper.right axis h
rate_proper rates Above axis proper h = proper.left axis h

rate_second : (order : ℕ) (rates : LevelRates) (donor : Donor) (axis : ℕ) → FitOrder order rates → axis < 3 → order ≡ 2 → 3 * rate_of (along rates axis) donor ≤ 2 * rates.denominator
rate_second order rates Below axis fit h e = fit.right axis h e
rate_second order rates Above axis fit h e = fit.left axis h e

pub fluxes_small : (l : Layout) (donor : Donor) (rates : LevelRates) (closed : List Bool) (cells list : List ℕ) → l.dims ≤ 3 → AreProper rates → All (λ t. t < 2 ^ 62) cells → AreFluxes l donor rates closed cells list → AreBelow (2 ^ 62) l list
fluxes_small l donor rates closed cells list few proper small fluxes axis i used w =
    let h : axis < 3 = omega arith in
    subst (λ v. v < 2 ^ 62) (sym (fluxes axis i used w))
    (paid_small (is_closed l closed axis i) (donor_total l donor cells axis i) (rate_of (along rates axis) donor) rates.denominator (2 ^ 62) proper.least (rate_proper rates donor axis proper h) (read_small cells small (place l (beside_face l axis donor i))))

-- the total of the paying cell
abbrev payer : Layout → Donor → List ℕ → ℕ → List ℕ → ℕ
payer l Below cells axis i = total_beside l cells axis 1 i
payer l Above cells axis i = total_beside l cells axis 2 i

payer_most : (l : Layout) (donor : Donor) (cells : List ℕ) (axis : ℕ) (i : List ℕ) → donor_at l donor cells axis i ≤ payer l donor cells axis i + payer l donor cells axis i / 2
payer_most l Below cells axis i = limited_most (total_beside l cells axis 0 i) (total_beside l cells axis 1 i) (total_beside l cells axis 2 i)
payer_most l Above cells axis i = limited_most (total_beside l cells axis 3 i) (total_beside l cells axis 2 i) (total_beside l cells axis 1 i)

payer_small : (l : Layout) (donor : Donor) (cells : List ℕ) (axis : ℕ) (i : List ℕ) → All (λ t. t < 2 ^ 62) cells → payer l donor cells axis i < 2 ^ 62
payer_small l Below cells axis i small = read_small cells small _
payer_small l Above cells axis i small = read_small cells small _

pub slopes_small : (l : Layout) (order : ℕ) (donor : Donor) (rates : LevelRates) (closed : List Bool) (cells list : List ℕ) → l.dims ≤ 3 → order ≡ 2 → AreProper rates → FitOrder order rates → All (λ t. t < 2 ^ 62) cells →
    AreSlopeFluxes l donor rates closed cells list → AreBelow (2 ^ 62) l list
slopes_small l order donor rates closed cells list few two proper fit small fluxes axis i used w =
    let h : axis < 3 = omega arith in
    subst (λ v. v < 2 ^ 62) (sym (fluxes axis i used w))
    (slope_small (is_closed l closed axis i) (donor_at l donor cells axis i) (payer l donor cells axis i) (rate_of (along rates axis) donor) rates.denominator (2 ^ 62) proper.least (rate_second order rates donor axis fit h two)
    (payer_most l donor cells axis i) (payer_small l donor cells axis i small))

-- on a block these are the mesh's own pairs
own_pairs : (b : FieldBlock) (order : ℕ) (rates : LevelRates) (closed : List Bool) (cells right left : List ℕ) → order ≡ (moves_at b.settings b.field).order → (order ≡ 1) ⊎ (order ≡ 2) → IsFieldBlock b → AreRatesOf b rates → ClosesReflecting b closed →
    HasInterior b cells → SeesAround b cells → AreFluxesBy order b.layout Below rates closed cells right → AreFluxesBy order b.layout Above rates closed cells left → HasOwnPairs b right left
own_pairs b order rates closed cells right left is which sound rated closes has sees rights lefts =
    elim which [
      | inl one ↦ first_order_pairs b rates closed cells right left sound (sym is ∙ one) rated closes has sees (rights.first one) (lefts.first one)
      | inr two ↦ second_order_pairs b rates closed cells right left sound (sym is ∙ two) rated closes has sees (rights.second two) (lefts.second two)
    ]

pub has_own : (b : FieldBlock) (order : ℕ) (rates : LevelRates) (closed : List Bool) (cells right left : List ℕ) → order ≡ (moves_at b.settings b.field).order → (order ≡ 1) ⊎ (order ≡ 2) → IsFieldBlock b → AreRatesOf b rates → ClosesReflecting b closed →
    HasInterior b cells → SeesAround b cells → AreFluxesBy order b.layout Below rates closed cells right → AreFluxesBy order b.layout Above rates closed cells left → AreBelow (2 ^ 62) b.layout right → AreBelow (2 ^ 62) b.layout left → HasOwn b right left
has_own b order rates closed cells right left is which sound rated closes has sees rights lefts small_right small_left =
    let pairs = own_pairs b order rates closed cells right left is which sound rated closes has sees rights lefts in
    record {
      pairs = pairs;
      small = λ i axis high used w free.
          let x = with_along axis (slice_index i axis + cond high 1 0) i in
          let within = face_within b.layout axis high i w (three_axes b axis sound used) in
          let pair = pairs i axis high used w free in
          (subst (λ v. v < 2 ^ 62) pair.0 (small_right axis x used within), subst (λ v. v < 2 ^ 62) pair.1 (small_left axis x used within));
    }
