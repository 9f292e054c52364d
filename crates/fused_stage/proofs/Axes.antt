-- Passes along one axis after the other.
use Rattle.std.proofs.Common.{◌≡◌, ℕ, zero, suc, ◌+◌, ◌-◌, ◌<◌, ◌≤◌, ◌^◌, Bool, List, sym, ◌∙◌, ap, subst, arith, refl, add-one}
use Rattle.block_layout.specs.declared.layout.Layout.{Layout}
use Rattle.block_layout.specs.Sizes.{IsLayout}
use Rattle.block_layout.specs.Indices.{IsWithin}
use Rattle.block_layout.specs.Layouts.{cells_along}
use Rattle.upwind_portions.specs.declared.fraction.Fraction.{Fraction}
use Rattle.upwind_fluxes.specs.declared.donor.Donor.TheVariants.{Below, Above}
use Rattle.upwind_fluxes.specs.declared.rates.LevelRates.{LevelRates}
use Rattle.upwind_fluxes.specs.declared.multipliers.Multipliers.{Multipliers}
use Rattle.upwind_fluxes.specs.Multipliers.{AreOf, fraction_at}
use Rattle.upwind_fluxes.specs.Rates.{along, rate_of}
use Rattle.transport_kernel.specs.Update.{GhostsStay, gain, gain_along, loss, loss_along, sum_axes, total_at}
use Rattle.transport_kernel.proofs.Axes.{sum_grows}
use Rattle.fused_stage.specs.Layers.{AxisPass, CanPassLayers, HasLayers, IsInLayers, after_axis, axis_pass}
use Rattle.fused_stage.specs.Stage.{CanStage, IsStaged, flux_by}
use Rattle.fused_stage.proofs.LayerCells.{here_is}

-- the pass along an axis by the rates
abbrev pub pass_at : Layout → LevelRates → List Bool → List ℕ → (ℕ → ℕ → ℕ) → ℕ → AxisPass
pass_at l rates closed cells begins axis = axis_pass l axis closed cells begins (rate_of (along rates axis) Below) rates.denominator (rate_of (along rates axis) Above) rates.denominator

-- it is the one by their multipliers
pub pass_is : (l : Layout) (rates : LevelRates) (m : Multipliers) (closed : List Bool) (cells : List ℕ) (begins : ℕ → ℕ → ℕ) (axis : ℕ) (f g : Fraction) → axis < 3 → AreOf rates m → f ≡ fraction_at m axis Below → g ≡ fraction_at m axis Above
    → axis_pass l axis closed cells begins f.rate f.denominator g.rate g.denominator ≡ pass_at l rates closed cells begins axis
pass_is l rates m closed cells begins axis f g u of_rates p q =
    same _ _ _ _ _ _ _ _ (ap (λ (x : Fraction). x.rate) p ∙ of_rates.rate axis Below u) (ap (λ (x : Fraction). x.denominator) p ∙ of_rates.denominator axis Below u)
    (ap (λ (x : Fraction). x.rate) q ∙ of_rates.rate axis Above u) (ap (λ (x : Fraction). x.denominator) q ∙ of_rates.denominator axis Above u)
  where
    same : (r d v e r' d' v' e' : ℕ) → r ≡ r' → d ≡ d' → v ≡ v' → e ≡ e' → axis_pass l axis closed cells begins r d v e ≡ axis_pass l axis closed cells begins r' d' v' e'
    same r d v e r' d' v' e' a b c h = cc

every_layer : (l : Layout) (axis : ℕ) (i : List ℕ) → axis < 3 → IsWithin l.cells i → IsInLayers l axis 0 (cells_along l axis) i
every_layer l zero i u w = record { within = w; least = omega arith; most = w.along1 }
every_layer l (suc zero) i u w = record { within = w; least = omega arith; most = w.along2 }
every_layer l (suc (suc zero)) i u w = record { within = w; least = omega arith; most = w.along3 }
every_layer l (suc (suc (suc a))) i u w = absurd (omega arith)

-- the passes along the axes below one are done
pub record StagedBelow (l : Layout) (axis : ℕ) (right left : ℕ → List ℕ → ℕ) (cells old new : List ℕ) : Type 0 where
  pub totals : (i : List ℕ) → IsWithin l.cells i → total_at l new i ≡ total_at l cells i + sum_axes axis (gain_along right left i) - sum_axes axis (loss_along right left i)
  pub ghosts : GhostsStay l old new

pub can_begin : (l : Layout) (rates : LevelRates) (closed : List Bool) (cells into : List ℕ) → IsLayout l.dims l.cells → CanStage l rates closed cells
    → CanPassLayers (pass_at l rates closed cells (λ _ here. here) 0) 0 (cells_along l 0) into
can_begin l rates closed cells into s can = record {
  pays = λ i w. subst (λ (v : ℕ). loss_along right left i 0 ≤ v) (sym (here_is l 0 cells i (omega arith)))
      (pays (loss_along right left i 0) (loss l.dims right left i) (total_at l cells i) (sum_grows (loss_along right left i) 1 l.dims s.least) (can.pays i w.within));
  small = λ i w. subst (λ (v : ℕ). v + gain_along right left i 0 < 2 ^ 63) (sym (here_is l 0 cells i (omega arith)))
      (small (gain_along right left i 0) (gain l.dims right left i) (total_at l cells i) (sum_grows (gain_along right left i) 1 l.dims s.least) (can.small i w.within));
}
  where
    right : ℕ → List ℕ → ℕ
    right = flux_by l rates closed cells Below

    left : ℕ → List ℕ → ℕ
    left = flux_by l rates closed cells Above

    pays : (a all total : ℕ) → 0 + a ≤ all → all ≤ total → a ≤ total
    pays a all total h k = omega arith

    small : (a all total : ℕ) → 0 + a ≤ all → total + all < 2 ^ 63 → total + a < 2 ^ 63
    small a all total h k = omega arith

pub begun_staged : (l : Layout) (rates : LevelRates) (closed : List Bool) (cells old new : List ℕ) → HasLayers (after_axis (pass_at l rates closed cells (λ _ here. here) 0)) l 0 0 (cells_along l 0) old new
    → StagedBelow l 1 (flux_by l rates closed cells Below) (flux_by l rates closed cells Above) cells new new
begun_staged l rates closed cells old new h = record {
  totals = λ i w. h.inside i (every_layer l 0 i (omega arith) w)
      ∙ ap (λ (v : ℕ). v + gain_along (flux_by l rates closed cells Below) (flux_by l rates closed cells Above) i 0 - loss_along (flux_by l rates closed cells Below) (flux_by l rates closed cells Above) i 0) (here_is l 0 cells i (omega arith))
      ∙ plain (total_at l cells i) (gain_along (flux_by l rates closed cells Below) (flux_by l rates closed cells Above) i 0) (loss_along (flux_by l rates closed cells Below) (flux_by l rates closed cells Above) i 0);
  ghosts = λ n off. refl;
}
  where
    plain : (t g v : ℕ) → t + g - v ≡ t + (0 + g) - (0 + v)
    plain t g v = omega arith

pub can_go_on : (l : Layout) (rates : LevelRates) (closed : List Bool) (cells old into : List ℕ) (axis : ℕ) → axis < l.dims → CanStage l rates closed cells
    → StagedBelow l axis (flux_by l rates closed cells Below) (flux_by l rates closed cells Above) cells old into → CanPassLayers (pass_at l rates closed cells (λ written _. written) axis) 0 (cells_along l axis) into
can_go_on l rates closed cells old into axis u can is = record {
  pays = λ i w. subst (λ (v : ℕ). loss_along right left i axis ≤ v) (sym (is.totals i w.within))
      (left_over (total_at l cells i) (sum_axes axis (gain_along right left i)) (sum_axes axis (loss_along right left i)) (loss_along right left i axis) (loss l.dims right left i)
      (sum_grows (loss_along right left i) (suc axis) l.dims (omega arith)) (can.pays i w.within));
  small = λ i w. subst (λ (v : ℕ). v + gain_along right left i axis < 2 ^ 63) (sym (is.totals i w.within))
      (small_still (total_at l cells i) (sum_axes axis (gain_along right left i)) (gain_along right left i axis) (sum_axes axis (loss_along right left i)) (gain l.dims right left i)
      (sum_grows (gain_along right left i) (suc axis) l.dims (omega arith)) (can.small i w.within));
}
  where
    right : ℕ → List ℕ → ℕ
    right = flux_by l rates closed cells Below

    left : ℕ → List ℕ → ℕ
    left = flux_by l rates closed cells Above

    left_over : (o g lo ls all : ℕ) → lo + ls ≤ all → all ≤ o → ls ≤ o + g - lo
    left_over o g lo ls all h k = omega arith

    small_still : (o g gs lo all : ℕ) → g + gs ≤ all → o + all < 2 ^ 63 → o + g - lo + gs < 2 ^ 63
    small_still o g gs lo all h k = omega arith

pub one_more_axis : (l : Layout) (rates : LevelRates) (closed : List Bool) (cells old before after : List ℕ) (axis : ℕ) → IsLayout l.dims l.cells → axis < l.dims → CanStage l rates closed cells
    → StagedBelow l axis (flux_by l rates closed cells Below) (flux_by l rates closed cells Above) cells old before
    → HasLayers (after_axis (pass_at l rates closed cells (λ written _. written) axis)) l axis 0 (cells_along l axis) before after
    → StagedBelow l (axis + 1) (flux_by l rates closed cells Below) (flux_by l rates closed cells Above) cells old after
one_more_axis l rates closed cells old before after axis s u can is h = record {
  totals = λ i w. h.inside i (every_layer l axis i (omega (arith, s.most)) w)
      ∙ ap (λ (v : ℕ). v + gain_along right left i axis - loss_along right left i axis) (is.totals i w)
      ∙ both (total_at l cells i) (sum_axes axis (gain_along right left i)) (gain_along right left i axis) (sum_axes axis (loss_along right left i)) (loss_along right left i axis) (loss l.dims right left i)
      (sum_grows (loss_along right left i) (suc axis) l.dims (omega arith)) (can.pays i w)
      ∙ ap (λ (v : ℕ). total_at l cells i + sum_axes v (gain_along right left i) - sum_axes v (loss_along right left i)) (sym (add-one axis));
  ghosts = λ n off. h.ghosts n off ∙ is.ghosts n off;
}
  where
    right : ℕ → List ℕ → ℕ
    right = flux_by l rates closed cells Below

    left : ℕ → List ℕ → ℕ
    left = flux_by l rates closed cells Above

    both : (o g gs lo ls all : ℕ) → lo + ls ≤ all → all ≤ o → o + g - lo + gs - ls ≡ o + (g + gs) - (lo + ls)
    both o g gs lo ls all h k = omega arith

pub all_staged : (l : Layout) (rates : LevelRates) (closed : List Bool) (cells old new : List ℕ) (axis : ℕ) → axis ≡ l.dims
    → StagedBelow l axis (flux_by l rates closed cells Below) (flux_by l rates closed cells Above) cells old new → IsStaged l rates closed cells new
all_staged l rates closed cells old new axis e is i w =
    is.totals i w ∙ ap (λ (v : ℕ). total_at l cells i + sum_axes v (gain_along (flux_by l rates closed cells Below) (flux_by l rates closed cells Above) i) - sum_axes v (loss_along (flux_by l rates closed cells Below) (flux_by l rates closed cells Above) i)) e
