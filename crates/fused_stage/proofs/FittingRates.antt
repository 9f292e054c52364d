-- Rates that are together at most their denominator.
use Rattle.std.proofs.Common.{◌≡◌, ℕ, zero, suc, ◌+◌, ◌*◌, ◌<◌, ◌≤◌, ◌^◌, Bool, true, false, cond, List, arith, refl}
use Rattle.std.proofs.Math.Nat.{div-mul-le_self, le_of_mul-le-mul_right, mul-le-mul_left, mul-le-mul_right}
use Rattle.mesh_num.specs.Portion.{portion}
use Rattle.block_layout.specs.Indices.{IsWithin}
use Rattle.upwind_fluxes.specs.declared.donor.Donor.{Donor}
use Rattle.upwind_fluxes.specs.declared.donor.Donor.TheVariants.{Below, Above}
use Rattle.upwind_fluxes.specs.Fluxes.{donor_total}
use Rattle.upwind_fluxes.specs.Rates.{along}
use Rattle.transport_kernel.specs.Update.{face_beside, sum_axes, total_at}
use Rattle.fused_stage.proofs.ClosedSides.{donor_bound}
use Rattle.fused_stage.proofs.LayerCells.{here_below, here_is}
use Rattle.fused_stage.specs.Stage.{FittingRatesSuffice, flux_by}

-- what passes a face is no more than the rate's part of a bound on the paying cell
flux_most : (b : Bool) (q c d most : ℕ) → q ≤ most → cond b 0 (portion q c d) * d ≤ most * c
flux_most true q c d most h = omega arith
flux_most false q c d most h = omega (arith, div-mul-le_self (q * c) d, mul-le-mul_right {m = q} {n = most} c h)

-- all axes together
pub sums_most : (n d most : ℕ) (f g r v rates : ℕ → ℕ) → ((axis : ℕ) → axis < n → f axis * d ≤ most * r axis) → ((axis : ℕ) → axis < n → g axis * d ≤ most * v axis) → ((axis : ℕ) → rates axis ≡ r axis + v axis)
    → sum_axes n (λ axis. f axis + g axis) * d ≤ most * sum_axes n rates
sums_most zero d most f g r v rates a b e = omega arith
sums_most (suc n) d most f g r v rates a b e =
    one_more _ _ _ _ _ _ _ d most (sums_most n d most f g r v rates (λ k h. a k (omega arith)) (λ k h. b k (omega arith)) e) (a n (omega arith)) (b n (omega arith)) (e n)
  where
    one_more : (s x y t p q w d m : ℕ) → s * d ≤ m * t → x * d ≤ m * p → y * d ≤ m * q → w ≡ p + q → (s + (x + y)) * d ≤ m * (t + w)
    one_more s x y t p q w d m h k j e = rw e (omega arith)

sum_within : (sum rates d most : ℕ) → 1 ≤ d → sum * d ≤ most * rates → rates ≤ d → sum ≤ most
sum_within sum rates d most some h k = le_of_mul-le-mul_right (omega (arith, mul-le-mul_left {m = rates} {n = d} most k, h)) some

pub fitting_rates_suffice : FittingRatesSuffice
fitting_rates_suffice l rates closed cells e proper fit small = record {
  pays = λ i w. sum_within _ (sum_axes l.dims together) rates.denominator (total_at l cells i) proper.least
      (sums_most l.dims rates.denominator (total_at l cells i) (λ axis. flux Above axis (face_beside i axis false)) (λ axis. flux Below axis (face_beside i axis true)) (λ axis. (along rates axis).left) (λ axis. (along rates axis).right) together
      (λ axis u. flux_most _ _ _ rates.denominator _ (omega (arith, here_is l axis cells i (three axis u)))) (λ axis u. flux_most _ _ _ rates.denominator _ (omega (arith, here_below l axis cells i (three axis u) u))) (λ axis. omega arith)) fit;
  small = λ i w. add_up (total_at l cells i) _ (own_most i w) (sum_within _ (sum_axes l.dims together) rates.denominator 4611686018427387903 proper.least
      (sums_most l.dims rates.denominator 4611686018427387903 (λ axis. flux Below axis (face_beside i axis false)) (λ axis. flux Above axis (face_beside i axis true)) (λ axis. (along rates axis).right) (λ axis. (along rates axis).left) together
      (λ axis u. flux_most _ _ _ rates.denominator _ (most Below axis false i u w)) (λ axis u. flux_most _ _ _ rates.denominator _ (most Above axis true i u w)) (λ axis. refl)) fit);
}
  where
    flux : Donor → ℕ → List ℕ → ℕ
    flux = flux_by l rates closed cells

    together : ℕ → ℕ
    together axis = (along rates axis).right + (along rates axis).left

    three : (axis : ℕ) → axis < l.dims → axis < 3
    three axis u = omega (arith, l.sound.most)

    most : (donor : Donor) (axis : ℕ) (high : Bool) (i : List ℕ) → axis < l.dims → IsWithin l.cells i → donor_total l donor cells axis (face_beside i axis high) ≤ 4611686018427387903
    most donor axis high i u w = omega (arith, donor_bound (λ t. t < 2 ^ 62) l axis donor high cells i l.sound u e w small)

    own_most : (i : List ℕ) → IsWithin l.cells i → total_at l cells i ≤ 4611686018427387903
    own_most i w = omega (arith, most Above 0 false i (omega (arith, l.sound.least)) w, here_is l 0 cells i (omega arith))

    add_up : (t g : ℕ) → t ≤ 4611686018427387903 → g ≤ 4611686018427387903 → t + g < 2 ^ 63
    add_up t g h k = omega arith
