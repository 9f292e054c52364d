-- By fitting rates cells can pay by the second order.
use Rattle.std.proofs.Common.{◌≡◌, ℕ, ◌+◌, ◌-◌, ◌*◌, ◌/◌, ◌<◌, ◌≤◌, ◌^◌, Bool, true, false, cond, List, [], ◌∷◌, length, slice_index, min, sym, subst, arith, refl, All}
use Rattle.std.proofs.Math.Nat.{div-mul-le_self, le_of_mul-le-mul_right, mul-le-mul_left, mul-le-mul_right}
use Rattle.mesh_num.specs.Portion.{portion}
use Rattle.block_layout.specs.declared.layout.Layout.{Layout}
use Rattle.block_layout.specs.Indices.{IsWithin, added, with_along}
use Rattle.block_layout.specs.Layouts.{ghost_layers, len, place}
use Rattle.block_layout.proofs.InBlock.{two_layers}
use Rattle.stage_rules.specs.Rules.{limited}
use Rattle.upwind_fluxes.specs.declared.donor.Donor.{Donor}
use Rattle.upwind_fluxes.specs.declared.donor.Donor.TheVariants.{Below, Above}
use Rattle.upwind_fluxes.specs.declared.rates.LevelRates.{LevelRates}
use Rattle.upwind_fluxes.specs.Fluxes.{donor_total}
use Rattle.upwind_fluxes.specs.Rates.{AreProper, along, rate_of}
use Rattle.transport_kernel.specs.Update.{CanPass, face_beside, listed, sum_axes, total_at}
use Rattle.slope_kernel.specs.Slopes.{AreSlopeFluxes, donor_at}
use Rattle.fused_stage.proofs.ClosedSides.{donor_bound}
use Rattle.fused_stage.proofs.FittingRates.{sums_most}
use Rattle.fused_stage.proofs.LayerCells.{here_below, here_is}
use Rattle.fused_stage.proofs.ListedFluxes.{face_within}
use Rattle.kernel_bench.specs.Fitting.{FitSlopes}

min_most : (x y most : ℕ) → x ≤ most → min x y ≤ most
min_most x y most h = grind arith

limited_most : (b h a : ℕ) → 2 * limited b h a ≤ 3 * h
limited_most b h a = whole h (min (h - b) (a - h)) (min (b - h) (h - a) / 2) (min_most (h - b) (a - h) h (omega arith))
  where
    whole : (h m k : ℕ) → m ≤ h → 2 * (h + m / 2 - k) ≤ 3 * h
    whole h m k u = omega arith

-- a cell counts for at most half as much again as it has
donor_most : (l : Layout) (donor : Donor) (cells : List ℕ) (axis : ℕ) (i : List ℕ) → axis < l.dims → 2 * donor_at l donor cells axis i ≤ 3 * donor_total l donor cells axis i
donor_most l Below cells axis i u = subst (λ (n : ℕ). 2 * donor_at l Below cells axis i ≤ 3 * slice_index cells (place l (added (with_along axis n (ghost_layers l 0 ∷ ghost_layers l 1 ∷ ghost_layers l 2 ∷ [])) i)))
    (one (ghost_layers l axis) (two_layers l axis u)) (limited_most _ _ _)
  where
    one : (g : ℕ) → g ≡ 2 → 1 ≡ g - 1
    one g e = omega arith
donor_most l Above cells axis i u = subst (λ (n : ℕ). 2 * donor_at l Above cells axis i ≤ 3 * slice_index cells (place l (added (with_along axis n (ghost_layers l 0 ∷ ghost_layers l 1 ∷ ghost_layers l 2 ∷ [])) i)))
    (two (ghost_layers l axis) (two_layers l axis u)) (limited_most _ _ _)
  where
    two : (g : ℕ) → g ≡ 2 → 2 ≡ g - 0
    two g e = omega arith

flux_most : (b : Bool) (q c d t most : ℕ) → 2 * q ≤ 3 * t → t ≤ most → cond b 0 (portion q c d) * (2 * d) ≤ 3 * most * c
flux_most true q c d t most h k = omega arith
flux_most false q c d t most h k = omega (arith, div-mul-le_self (q * c) d, mul-le-mul_right {m = 2 * q} {n = 3 * most} c (omega arith))

sum_within : (sum rates d most : ℕ) → 1 ≤ d → sum * (2 * d) ≤ 3 * most * rates → 3 * rates ≤ 2 * d → sum ≤ most
sum_within sum rates d most some h k = le_of_mul-le-mul_right {k = 2 * d} (omega (arith, mul-le-mul_left {m = 3 * rates} {n = 2 * d} most k, h)) (omega (arith, some))

-- what a list says of a face, by a bound on the cell that pays
listed_most : (l : Layout) (rates : LevelRates) (closed : List Bool) (cells list : List ℕ) (donor : Donor) (axis : ℕ) (high : Bool) (i : List ℕ) (most : ℕ) → axis < l.dims → IsWithin l.cells i
    → AreSlopeFluxes l donor rates closed cells list → donor_total l donor cells axis (face_beside i axis high) ≤ most
    → listed l list axis (face_beside i axis high) * (2 * rates.denominator) ≤ 3 * most * rate_of (along rates axis) donor
listed_most l rates closed cells list donor axis high i most u w are h =
    subst (λ (v : ℕ). v * (2 * rates.denominator) ≤ 3 * most * rate_of (along rates axis) donor)
    (sym (are axis (face_beside i axis high) u (face_within l axis high i (omega (arith, l.sound.most)) w)))
    (flux_most _ _ _ rates.denominator _ most (donor_most l donor cells axis (face_beside i axis high) u) h)

pub can_pass : (l : Layout) (rates : LevelRates) (closed : List Bool) (cells right left : List ℕ) → length cells ≡ len l → AreProper rates → FitSlopes l.dims rates → All (λ t. t < 2 ^ 62) cells
    → AreSlopeFluxes l Below rates closed cells right → AreSlopeFluxes l Above rates closed cells left → CanPass l (listed l right) (listed l left) cells
can_pass l rates closed cells right left e proper fit small a b = record {
  pays = λ i w. sum_within _ (sum_axes l.dims together) rates.denominator (total_at l cells i) proper.least
      (sums_most l.dims (2 * rates.denominator) (3 * total_at l cells i) (λ axis. listed l left axis (face_beside i axis false)) (λ axis. listed l right axis (face_beside i axis true)) (λ axis. (along rates axis).left) (λ axis. (along rates axis).right) together
      (λ axis u. listed_most l rates closed cells left Above axis false i _ u w b (omega (arith, here_is l axis cells i (three axis u))))
      (λ axis u. listed_most l rates closed cells right Below axis true i _ u w a (omega (arith, here_below l axis cells i (three axis u) u))) (λ axis. omega arith)) fit;
  small = λ i w. add_up (total_at l cells i) _ (own_most i w) (sum_within _ (sum_axes l.dims together) rates.denominator 4611686018427387903 proper.least
      (sums_most l.dims (2 * rates.denominator) (3 * 4611686018427387903) (λ axis. listed l right axis (face_beside i axis false)) (λ axis. listed l left axis (face_beside i axis true)) (λ axis. (along rates axis).right) (λ axis. (along rates axis).left) together
      (λ axis u. listed_most l rates closed cells right Below axis false i 4611686018427387903 u w a (most Below axis false i u w))
      (λ axis u. listed_most l rates closed cells left Above axis true i 4611686018427387903 u w b (most Above axis true i u w)) (λ axis. refl)) fit);
}
  where
    together : ℕ → ℕ
    together axis = (along rates axis).right + (along rates axis).left

    three : (axis : ℕ) → axis < l.dims → axis < 3
    three axis u = omega (arith, l.sound.most)

    most : (donor : Donor) (axis : ℕ) (high : Bool) (i : List ℕ) → axis < l.dims → IsWithin l.cells i → donor_total l donor cells axis (face_beside i axis high) ≤ 4611686018427387903
    most donor axis high i u w = omega (arith, donor_bound (λ t. t < 2 ^ 62) l axis donor high cells i l.sound u e w small)

    own_most : (i : List ℕ) → IsWithin l.cells i → total_at l cells i ≤ 4611686018427387903
    own_most i w = omega (arith, most Above 0 false i (omega (arith, l.sound.least)) w, here_is l 0 cells i (omega arith))

    add_up : (t g : ℕ) → t ≤ 4611686018427387903 → g ≤ 4611686018427387903 → t + g < 2 ^ 63
    add_up t g h k = omega arith
