-- The rates of the bench.
use Rattle.std.proofs.Common.{◌≡◌, ℕ, zero, suc, ◌+◌, ◌*◌, ◌<◌, ◌≤◌, ◌^◌, [], ◌∷◌, arith, refl}
use Rattle.upwind_fluxes.specs.declared.rates.LevelRates.{LevelRates}
use Rattle.upwind_fluxes.specs.Rates.{AreProper, along}
use Rattle.transport_kernel.proofs.Axes.{sum_grows}
use Rattle.fused_stage.specs.Stage.{FitTogether}
use Rattle.kernel_bench.specs.Fitting.{FitSlopes}

abbrev pub same_rates : ℕ → ℕ → ℕ → LevelRates
same_rates r v d = record { denominator = d; axes = (record { right = r; left = v }) ∷ (record { right = r; left = v }) ∷ (record { right = r; left = v }) ∷ [] }

rights : (r v d axis : ℕ) → axis < 3 → (along (same_rates r v d) axis).right ≡ r
rights r v d zero u = refl
rights r v d (suc zero) u = refl
rights r v d (suc (suc zero)) u = refl
rights r v d (suc (suc (suc a))) u = absurd (omega arith)

lefts : (r v d axis : ℕ) → axis < 3 → (along (same_rates r v d) axis).left ≡ v
lefts r v d zero u = refl
lefts r v d (suc zero) u = refl
lefts r v d (suc (suc zero)) u = refl
lefts r v d (suc (suc (suc a))) u = absurd (omega arith)

pub are_proper : (r v d : ℕ) → 1 ≤ d → d ≤ 10 ^ 9 → r ≤ d → v ≤ d → AreProper (same_rates r v d)
are_proper r v d some most h k = record { least = some; most = most; right = λ axis u. omega (arith, rights r v d axis u); left = λ axis u. omega (arith, lefts r v d axis u) }

pub fit_slopes : (v dims : ℕ) → v ≤ 60 → dims ≤ 3 → FitSlopes dims (same_rates 100 v 1000)
fit_slopes v dims h k = within _ v h (sum_grows (λ axis. (along (same_rates 100 v 1000) axis).right + (along (same_rates 100 v 1000) axis).left) dims 3 k)
  where
    within : (sum v : ℕ) → v ≤ 60 → sum ≤ 0 + (100 + v) + (100 + v) + (100 + v) → 3 * sum ≤ 2 * 1000
    within sum v h k = omega arith

pub fit_together : (dims : ℕ) (rates : LevelRates) → FitSlopes dims rates → FitTogether dims rates
fit_together dims rates fit = omega (arith, fit)
