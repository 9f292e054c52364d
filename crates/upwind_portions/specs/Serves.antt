-- Which totals a tier of portions serves.
use Rattle.std.specs.Prelude.{◌≡◌, ℕ, ◌<◌, ◌≤◌, ◌^◌}
use Rattle.upwind_portions.specs.declared.fraction.Tier.{Tier}
use Rattle.upwind_portions.specs.declared.fraction.Tier.TheVariants.{Nothing, Small, Word, Any}

-- a tier has that rate and that denominator, and serves totals up to a greatest one
abbrev pub Serves : ℕ → ℕ → ℕ → Tier → Type 0
Serves rate denominator greatest (Nothing p) = (rate ≡ 0) × (p.denominator ≡ denominator)
Serves rate denominator greatest (Small p) = (p.rate ≡ rate) × (p.denominator ≡ denominator) × (greatest ≤ p.greatest)
Serves rate denominator greatest (Word p) = (p.rate ≡ rate) × (p.denominator ≡ denominator) × (greatest < 2 ^ 32)
Serves rate denominator greatest (Any p) = (p.rate ≡ rate) × (p.denominator ≡ denominator) × (greatest < 2 ^ 62)
