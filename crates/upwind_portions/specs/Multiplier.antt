-- Multipliers that stand for a fraction.
use Rattle.std.specs.Prelude.{◌≡◌, ℕ, ◌+◌, ◌*◌, ◌/◌, ◌<◌}
use Rattle.mesh_num.specs.Portion.{portion}

-- the multiplier of c / d over a scale w, the next number above w * c / d: 33 for 1 / 4 over 128
abbrev pub multiplier_of : ℕ → ℕ → ℕ → ℕ
multiplier_of w c d = w * c / d + 1

-- the portion is the product with the multiplier over the scale, where the total times the denominator is below the scale
abbrev pub MultiplierIsExact : Type 0
MultiplierIsExact = (w q c d : ℕ) → 0 < d → q * d < w → q * multiplier_of w c d / w ≡ portion q c d
