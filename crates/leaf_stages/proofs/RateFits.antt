-- The rates of a field at a level of a problem, and the closed sides of a leaf.
use Rattle.std.proofs.Common.{◌≡◌, ℕ, zero, suc, ◌+◌, ◌-◌, ◌*◌, ◌<◌, ◌≤◌, Bool, true, false, cond, [], ◌∷◌, length, refl, arith}
use Rattle.std.specs.List.{slice_index_or}
use Rattle.package_fields.specs.Flags.{has}
use Rattle.package_fields.specs.declared.flag.Flag.TheVariants.{WithFluxes}
use Rattle.mesh_num.specs.Rate.{rate}
use Rattle.problem_set.specs.declared.problem.Problem.{Problem}
use Rattle.problem_set.specs.declared.rates.Rates.{Rates}
use Rattle.problem_set.specs.Settings.{Settings}
use Rattle.problem_set.specs.SettingsOf.{settings_of}
use Rattle.problem_set.specs.SoundProblem.{IsFittingSum}
use Rattle.problem_set.specs.Rates.{both_rates, downwards, left_rate, rate_sum, right_rate, upwards, velocity}
use Rattle.mesh_rules.specs.Fields.{field_at, moves_at, rates_at}
use Rattle.mesh_laws.proofs.Portions.{rate_grows}
use Rattle.run_laws.proofs.CycleTotals.{rates_fit}
use Rattle.upwind_fluxes.specs.Fluxes.{is_closed_side}
use Rattle.leaf_stages.specs.Rates.{AreRatesAt, IsRateOf}

-- the sides in order
pub six_closed : (a b c d e f : Bool) (want : ℕ → Bool → Bool) (used : ℕ → Type 0) → (used 0 → a ≡ want 0 false) → (used 0 → b ≡ want 0 true) → (used 1 → c ≡ want 1 false) → (used 1 → d ≡ want 1 true) → (used 2 → e ≡ want 2 false) → (used 2 → f ≡ want 2 true) →
    (axis : ℕ) (high : Bool) → axis < 3 → used axis → is_closed_side (a ∷ b ∷ c ∷ d ∷ e ∷ f ∷ []) axis high ≡ want axis high
six_closed a b c d e f want used p q r s t u zero false h v = p v
six_closed a b c d e f want used p q r s t u zero true h v = q v
six_closed a b c d e f want used p q r s t u (suc zero) false h v = r v
six_closed a b c d e f want used p q r s t u (suc zero) true h v = s v
six_closed a b c d e f want used p q r s t u (suc (suc zero)) false h v = t v
six_closed a b c d e f want used p q r s t u (suc (suc zero)) true h v = u v
six_closed a b c d e f want used p q r s t u (suc (suc (suc x))) high h v = absurd (omega arith)

-- one rate is at most the sum at the finest level
rate_by : (moved : Bool) (v k low high : ℕ) → low ≤ high → cond moved (rate v k low) 0 ≤ cond moved (rate v k high) 0
rate_by true v k low high h = rate_grows v k low high h
rate_by false v k low high h = omega arith

rates_by : (p : Settings) (f axis low high : ℕ) → low ≤ high → both_rates (field_at p f) (moves_at p f) low axis ≤ both_rates (field_at p f) (moves_at p f) high axis
rates_by p f axis low high h =
    let t = has WithFluxes (field_at p f).flags in
    let a = rate_by t (upwards (velocity (moves_at p f) axis)) (moves_at p f).k low high h in
    let b = rate_by t (downwards (velocity (moves_at p f) axis)) (moves_at p f).k low high h in
    omega arith

one_of_sum : (p : Settings) (f dims axis level : ℕ) → dims ≤ 3 → axis < dims → both_rates (field_at p f) (moves_at p f) level axis ≤ rate_sum dims level (field_at p f) (moves_at p f)
one_of_sum p f zero axis level h k = absurd (omega arith)
one_of_sum p f (suc zero) zero level h k = omega arith
one_of_sum p f (suc zero) (suc a) level h k = absurd (omega arith)
one_of_sum p f (suc (suc zero)) zero level h k = omega arith
one_of_sum p f (suc (suc zero)) (suc zero) level h k = omega arith
one_of_sum p f (suc (suc zero)) (suc (suc a)) level h k = absurd (omega arith)
one_of_sum p f (suc (suc (suc zero))) zero level h k = omega arith
one_of_sum p f (suc (suc (suc zero))) (suc zero) level h k = omega arith
one_of_sum p f (suc (suc (suc zero))) (suc (suc zero)) level h k = omega arith
one_of_sum p f (suc (suc (suc zero))) (suc (suc (suc a))) level h k = absurd (omega arith)
one_of_sum p f (suc (suc (suc (suc d)))) axis level h k = absurd (omega arith)

one_fits : (order sum den rate other : ℕ) → IsFittingSum order sum den → rate + other ≤ sum → (rate ≤ den) × (order ≡ 2 → 3 * rate ≤ 2 * den)
one_fits order sum den rate other fit h = let a = fit.once in (omega arith, λ e. let b = fit.second e in omega arith)

both_fit : (p : Problem) (f axis level : ℕ) → f < length p.moves → axis < p.shape.dims → level < p.levels →
    both_rates (field_at (settings_of p) f) (moves_at (settings_of p) f) level axis ≤ rate_sum p.shape.dims (p.levels - 1) (field_at (settings_of p) f) (moves_at (settings_of p) f)
both_fit p f axis level some used low =
    let a = rates_by (settings_of p) f axis level (p.levels - 1) (omega arith) in
    let b = one_of_sum (settings_of p) f p.shape.dims axis (p.levels - 1) p.grid_sound.shape_sound.most used in
    omega arith

pub right_fits : (p : Problem) (f axis level rate : ℕ) → f < length p.moves → axis < p.shape.dims → level < p.levels → rate ≡ right_rate (field_at (settings_of p) f) (moves_at (settings_of p) f) axis level → IsRateOf (settings_of p) f rate
right_fits p f axis level rate some used low e =
    let same = p.fields_sound.same_length in
    let fit = rates_fit p f p.shape refl (omega (arith, same, some)) in
    let less = both_fit p f axis level some used low in
    let both = one_fits (moves_at (settings_of p) f).order (rate_sum p.shape.dims (p.levels - 1) (field_at (settings_of p) f) (moves_at (settings_of p) f)) p.denominator rate (left_rate (field_at (settings_of p) f) (moves_at (settings_of p) f) axis level) fit.fits (omega (arith, less, e)) in
    record { once = both.0; second = both.1 }

pub left_fits : (p : Problem) (f axis level rate : ℕ) → f < length p.moves → axis < p.shape.dims → level < p.levels → rate ≡ left_rate (field_at (settings_of p) f) (moves_at (settings_of p) f) axis level → IsRateOf (settings_of p) f rate
left_fits p f axis level rate some used low e =
    let same = p.fields_sound.same_length in
    let fit = rates_fit p f p.shape refl (omega (arith, same, some)) in
    let less = both_fit p f axis level some used low in
    let both = one_fits (moves_at (settings_of p) f).order (rate_sum p.shape.dims (p.levels - 1) (field_at (settings_of p) f) (moves_at (settings_of p) f)) p.denominator rate (right_rate (field_at (settings_of p) f) (moves_at (settings_of p) f) axis level) fit.fits (omega (arith, less, e)) in
    record { once = both.0; second = both.1 }

-- rates axis by axis
pub three_rates : (p : Problem) (f level : ℕ) (a b c : Rates) → (0 < p.shape.dims → a.right ≡ (rates_at (settings_of p) f 0 level).right) → (0 < p.shape.dims → a.left ≡ (rates_at (settings_of p) f 0 level).left) →
    (1 < p.shape.dims → b.right ≡ (rates_at (settings_of p) f 1 level).right) → (1 < p.shape.dims → b.left ≡ (rates_at (settings_of p) f 1 level).left) →
    (2 < p.shape.dims → c.right ≡ (rates_at (settings_of p) f 2 level).right) → (2 < p.shape.dims → c.left ≡ (rates_at (settings_of p) f 2 level).left) →
    AreRatesAt (settings_of p) f level (record { denominator = p.denominator; axes = a ∷ b ∷ c ∷ [] })
three_rates p f level a b c ar al br bl cr cl = record { denominator = refl; right = rights; left = lefts }
  where
    rights : (axis : ℕ) → axis < p.shape.dims → (slice_index_or (a ∷ b ∷ c ∷ []) axis (record { right = 0; left = 0 })).right ≡ (rates_at (settings_of p) f axis level).right
    rights zero h = ar h
    rights (suc zero) h = br h
    rights (suc (suc zero)) h = cr h
    rights (suc (suc (suc x))) h = absurd (omega (arith, h, p.grid_sound.shape_sound.most))

    lefts : (axis : ℕ) → axis < p.shape.dims → (slice_index_or (a ∷ b ∷ c ∷ []) axis (record { right = 0; left = 0 })).left ≡ (rates_at (settings_of p) f axis level).left
    lefts zero h = al h
    lefts (suc zero) h = bl h
    lefts (suc (suc zero)) h = cl h
    lefts (suc (suc (suc x))) h = absurd (omega (arith, h, p.grid_sound.shape_sound.most))
