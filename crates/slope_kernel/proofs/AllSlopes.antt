-- The faces of one more axis.
use Rattle.std.proofs.Common.{◌≡◌, ◌≢◌, ℕ, ◌+◌, ◌<◌, ◌≤◌, Bool, List, slice_index, sym, ◌∙◌, ap, subst, inl, inr, arith}
use Rattle.std.proofs.Math.Nat.{eq-or-lt_of_le}
use Rattle.block_layout.specs.declared.layout.Layout.{Layout}
use Rattle.block_layout.specs.Sizes.{IsLayout}
use Rattle.block_layout.specs.Indices.{IsWithin}
use Rattle.block_layout.specs.Faces.{face_extents, face_number}
use Rattle.upwind_portions.specs.declared.fraction.Fraction.{Fraction}
use Rattle.upwind_fluxes.specs.declared.donor.Donor.{Donor}
use Rattle.upwind_fluxes.specs.declared.rates.LevelRates.{LevelRates}
use Rattle.upwind_fluxes.specs.declared.multipliers.Multipliers.{Multipliers}
use Rattle.slope_kernel.specs.Slopes.{slope_flux}
use Rattle.upwind_fluxes.specs.Multipliers.{AreOf, fraction_at}
use Rattle.upwind_fluxes.specs.Rates.{along, rate_of}

-- the face of an index has what passes it by the rates
abbrev pub HasFlux : Layout → Donor → LevelRates → List Bool → List ℕ → List ℕ → ℕ → List ℕ → Type 0
HasFlux l donor rates closed cells list axis i = slice_index list (face_number l axis i) ≡ slope_flux l donor (rate_of (along rates axis) donor) rates.denominator closed cells axis i

pub one_more_axis : (l : Layout) (donor : Donor) (rates : LevelRates) (m : Multipliers) (closed : List Bool) (cells old new : List ℕ) (axis : ℕ) (f : Fraction) → IsLayout l.dims l.cells → AreOf rates m → axis < l.dims → f ≡ fraction_at m axis donor
    → ((i : List ℕ) → IsWithin (face_extents l axis) i → slice_index new (face_number l axis i) ≡ slope_flux l donor f.rate f.denominator closed cells axis i)
    → ((other : ℕ) (i : List ℕ) → other < l.dims → other ≢ axis → IsWithin (face_extents l other) i → slice_index new (face_number l other i) ≡ slice_index old (face_number l other i))
    → ((a : ℕ) (i : List ℕ) → a < axis → a < l.dims → IsWithin (face_extents l a) i → HasFlux l donor rates closed cells old a i)
    → (a : ℕ) (i : List ℕ) → a < axis + 1 → a < l.dims → IsWithin (face_extents l a) i → HasFlux l donor rates closed cells new a i
one_more_axis l donor rates m closed cells old new axis f sound of_rates used is here others known a i h u w =
    elim (eq-or-lt_of_le (at_most a axis h)) [
      | inl e ↦ subst (λ (b : ℕ). IsWithin (face_extents l b) i → HasFlux l donor rates closed cells new b i) (sym e)
          (λ v. here i v
          ∙ ap (λ (g : Fraction). slope_flux l donor g.rate g.denominator closed cells axis i) is
          ∙ ap (λ (r : ℕ). slope_flux l donor r (fraction_at m axis donor).denominator closed cells axis i) (of_rates.rate axis donor three)
          ∙ ap (λ (d : ℕ). slope_flux l donor (rate_of (along rates axis) donor) d closed cells axis i) (of_rates.denominator axis donor three)) w
      | inr less ↦ others a i u (λ e. below_itself a axis less e) w ∙ known a i less u w
    ]
  where
    at_most : (a b : ℕ) → a < b + 1 → a ≤ b
    at_most a b h = omega arith

    below_itself : (a b : ℕ) → a < b → a ≡ b → ⊥
    below_itself a b h e = omega arith

    three : axis < 3
    three = omega (arith, sound.most)
