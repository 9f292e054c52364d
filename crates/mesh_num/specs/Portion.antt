use Rattle.std.specs.Prelude.{◌≡◌, ℕ, ◌+◌, ◌*◌, ◌/◌, ◌<◌, ◌≤◌}

-- the floor of the fraction c / d of a total
abbrev pub portion : ℕ → ℕ → ℕ → ℕ
portion q c d = q * c / d

-- the portion of a total by a proper fraction: the floor, at most the total, nothing of nothing
pub record IsFloor (q c d : ℕ) : Type 0 where
  pub below : portion q c d * d ≤ q * c
  pub next_above : q * c < (portion q c d + 1) * d
  pub within : portion q c d ≤ q

abbrev pub PortionLaws : Type 0
PortionLaws = ((q c d : ℕ) → 1 ≤ d → c ≤ d → IsFloor q c d) × ((c d : ℕ) → portion 0 c d ≡ 0)
