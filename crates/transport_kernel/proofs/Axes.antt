-- Passes along one axis after the other.
use Rattle.std.proofs.Common.{◌≡◌, ℕ, zero, suc, ◌+◌, ◌-◌, ◌<◌, ◌≤◌, ◌^◌, List, sym, ◌∙◌, ap, subst, arith, refl, inl, inr, add-one}
use Rattle.std.proofs.lemmas.Bool.{cases_lt}
use Rattle.block_layout.specs.declared.layout.Layout.{Layout}
use Rattle.block_layout.specs.Indices.{IsWithin}
use Rattle.transport_kernel.specs.Axis.{CanPassAlong, HasPassedAlong}
use Rattle.transport_kernel.specs.Update.{CanPass, GhostsStay, HasPassed, gain, gain_along, loss, loss_along, sum_axes, total_at}

pub sum_grows : (f : ℕ → ℕ) (a b : ℕ) → a ≤ b → sum_axes a f ≤ sum_axes b f
sum_grows f a zero h = grind arith
sum_grows f a (suc b) h = elim (cases_lt b a) [
  | inl less ↦ subst (λ (v : ℕ). sum_axes v f ≤ sum_axes (suc b) f) (same less) (omega arith)
  | inr most ↦ omega (arith, sum_grows f a b most)
]
  where
    same : b < a → suc b ≡ a
    same less = omega arith

-- the passes along the axes below one are done
pub record PassedBelow (l : Layout) (axis : ℕ) (right left : ℕ → List ℕ → ℕ) (old new : List ℕ) : Type 0 where
  pub totals : (i : List ℕ) → IsWithin l.cells i → total_at l new i ≡ total_at l old i + sum_axes axis (gain_along right left i) - sum_axes axis (loss_along right left i)
  pub ghosts : GhostsStay l old new

pub none_passed : (l : Layout) (right left : ℕ → List ℕ → ℕ) (cells : List ℕ) → PassedBelow l 0 right left cells cells
none_passed l right left cells = record { totals = λ i w. omega arith; ghosts = λ n off. refl }

-- what is left for an axis suffices for it
left_over : (o g gs lo ls all most : ℕ) → lo + ls ≤ all → all ≤ o → (ls ≤ o + g - lo)
left_over o g gs lo ls all most h k = omega arith

small_still : (o g gs lo all : ℕ) → g + gs ≤ all → o + all < 2 ^ 63 → o + g - lo + gs < 2 ^ 63
small_still o g gs lo all h k = omega arith

pub can_pass_along : (l : Layout) (axis : ℕ) (right left : ℕ → List ℕ → ℕ) (old new : List ℕ) → axis < l.dims → CanPass l right left old → PassedBelow l axis right left old new → CanPassAlong l axis right left new
can_pass_along l axis right left old new u can is = record {
  pays = λ i w. subst (λ (v : ℕ). loss_along right left i axis ≤ v) (sym (is.totals i w))
      (left_over (total_at l old i) (sum_axes axis (gain_along right left i)) 0 (sum_axes axis (loss_along right left i)) (loss_along right left i axis) (loss l.dims right left i) 0
      (sum_grows (loss_along right left i) (suc axis) l.dims (omega arith)) (can.pays i w));
  small = λ i w. subst (λ (v : ℕ). v + gain_along right left i axis < 2 ^ 63) (sym (is.totals i w))
      (small_still (total_at l old i) (sum_axes axis (gain_along right left i)) (gain_along right left i axis) (sum_axes axis (loss_along right left i)) (gain l.dims right left i)
      (sum_grows (gain_along right left i) (suc axis) l.dims (omega arith)) (can.small i w));
}

both_passed : (o g gs lo ls all : ℕ) → lo + ls ≤ all → all ≤ o → o + g - lo + gs - ls ≡ o + (g + gs) - (lo + ls)
both_passed o g gs lo ls all h k = omega arith

pub one_more_axis : (l : Layout) (axis : ℕ) (right left : ℕ → List ℕ → ℕ) (old before after : List ℕ) → axis < l.dims → CanPass l right left old → PassedBelow l axis right left old before
    → HasPassedAlong l axis right left before after → GhostsStay l before after → PassedBelow l (axis + 1) right left old after
one_more_axis l axis right left old before after u can is here stays = record {
  totals = λ i w. here i w
      ∙ ap (λ (v : ℕ). v + gain_along right left i axis - loss_along right left i axis) (is.totals i w)
      ∙ both_passed (total_at l old i) (sum_axes axis (gain_along right left i)) (gain_along right left i axis) (sum_axes axis (loss_along right left i)) (loss_along right left i axis) (loss l.dims right left i)
      (sum_grows (loss_along right left i) (suc axis) l.dims (omega arith)) (can.pays i w)
      ∙ next i;
  ghosts = λ n off. stays n off ∙ is.ghosts n off;
}
  where
    next : (i : List ℕ) → total_at l old i + sum_axes (suc axis) (gain_along right left i) - sum_axes (suc axis) (loss_along right left i)
        ≡ total_at l old i + sum_axes (axis + 1) (gain_along right left i) - sum_axes (axis + 1) (loss_along right left i)
    next i = ap (λ (v : ℕ). total_at l old i + sum_axes v (gain_along right left i) - sum_axes v (loss_along right left i)) (sym (add-one axis))

pub all_passed : (l : Layout) (axis : ℕ) (right left : ℕ → List ℕ → ℕ) (old new : List ℕ) → axis ≡ l.dims → PassedBelow l axis right left old new → HasPassed l right left old new
all_passed l axis right left old new e is i w =
    is.totals i w ∙ ap (λ (v : ℕ). total_at l old i + sum_axes v (gain_along right left i) - sum_axes v (loss_along right left i)) e
