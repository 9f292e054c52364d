-- A stage by lists of what passes the faces.
use Rattle.std.proofs.Common.{◌≡◌, ℕ, zero, suc, ◌+◌, ◌-◌, ◌<◌, ◌≤◌, ◌^◌, Bool, true, false, cond, List, sym, subst, arith, refl}
use Rattle.block_layout.specs.declared.layout.Layout.{Layout}
use Rattle.block_layout.specs.Indices.{IsWithin}
use Rattle.block_layout.specs.Faces.{face_extents}
use Rattle.upwind_fluxes.specs.declared.donor.Donor.{Donor}
use Rattle.upwind_fluxes.specs.declared.donor.Donor.TheVariants.{Below, Above}
use Rattle.upwind_fluxes.specs.declared.rates.LevelRates.{LevelRates}
use Rattle.upwind_fluxes.specs.Fluxes.{AreFluxes}
use Rattle.transport_kernel.specs.Update.{face_beside, gain, listed, loss, sum_axes, total_at}
use Rattle.fused_stage.specs.Stage.{IsUpdateAfterFluxes, flux_by}

step_most : (high : Bool) (x n : ℕ) → x < n → x + cond high 1 0 < n + 1
step_most true x n h = omega arith
step_most false x n h = omega arith

pub face_within : (l : Layout) (axis : ℕ) (high : Bool) (i : List ℕ) → axis < 3 → IsWithin l.cells i → IsWithin (face_extents l axis) (face_beside i axis high)
face_within l zero high i u w = record { along1 = step_most high _ _ w.along1; along2 = w.along2; along3 = w.along3 }
face_within l (suc zero) high i u w = record { along1 = w.along1; along2 = step_most high _ _ w.along2; along3 = w.along3 }
face_within l (suc (suc zero)) high i u w = record { along1 = w.along1; along2 = w.along2; along3 = step_most high _ _ w.along3 }
face_within l (suc (suc (suc a))) high i u w = absurd (omega arith)

sums_same : (n : ℕ) (f g : ℕ → ℕ) → ((axis : ℕ) → axis < n → f axis ≡ g axis) → sum_axes n f ≡ sum_axes n g
sums_same zero f g same = refl
sums_same (suc n) f g same = let a = sums_same n f g (λ k h. same k (omega arith)) in let b = same n (omega arith) in cc

-- a list has what passes the faces of a cell
face_listed : (l : Layout) (rates : LevelRates) (closed : List Bool) (cells list : List ℕ) (donor : Donor) (axis : ℕ) (high : Bool) (i : List ℕ) → AreFluxes l donor rates closed cells list → axis < l.dims → IsWithin l.cells i
    → listed l list axis (face_beside i axis high) ≡ flux_by l rates closed cells donor axis (face_beside i axis high)
face_listed l rates closed cells list donor axis high i are u w = are axis (face_beside i axis high) u (face_within l axis high i (omega (arith, l.sound.most)) w)

gains_same : (l : Layout) (rates : LevelRates) (closed : List Bool) (cells right left i : List ℕ) → AreFluxes l Below rates closed cells right → AreFluxes l Above rates closed cells left → IsWithin l.cells i
    → gain l.dims (listed l right) (listed l left) i ≡ gain l.dims (flux_by l rates closed cells Below) (flux_by l rates closed cells Above) i
gains_same l rates closed cells right left i a b w = sums_same l.dims _ _ (λ axis u.
    let p = face_listed l rates closed cells right Below axis false i a u w in
    let q = face_listed l rates closed cells left Above axis true i b u w in
    cc)

losses_same : (l : Layout) (rates : LevelRates) (closed : List Bool) (cells right left i : List ℕ) → AreFluxes l Below rates closed cells right → AreFluxes l Above rates closed cells left → IsWithin l.cells i
    → loss l.dims (listed l right) (listed l left) i ≡ loss l.dims (flux_by l rates closed cells Below) (flux_by l rates closed cells Above) i
losses_same l rates closed cells right left i a b w = sums_same l.dims _ _ (λ axis u.
    let p = face_listed l rates closed cells left Above axis false i b u w in
    let q = face_listed l rates closed cells right Below axis true i a u w in
    cc)

pub update_after_fluxes : IsUpdateAfterFluxes
update_after_fluxes = record {
  may_be = λ l rates closed cells right left a b can. record {
    pays = λ i w. subst (λ (v : ℕ). v ≤ total_at l cells i) (sym (losses_same l rates closed cells right left i a b w)) (can.pays i w);
    small = λ i w. subst (λ (v : ℕ). total_at l cells i + v < 2 ^ 63) (sym (gains_same l rates closed cells right left i a b w)) (can.small i w);
  };
  same = λ l rates closed cells right left updated staged a b updates stages i w.
      let g = gains_same l rates closed cells right left i a b w in
      let h = losses_same l rates closed cells right left i a b w in
      let p = updates i w in
      let q = stages i w in
      same_totals _ _ _ _ _ _ _ g h p q;
}
  where
    same_totals : (t g v g' v' u s : ℕ) → g ≡ g' → v ≡ v' → u ≡ t + g - v → s ≡ t + g' - v' → s ≡ u
    same_totals t g v g' v' u s a b c d = omega arith
