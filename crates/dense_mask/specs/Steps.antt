-- For the code: lists that are changed item by item.
use Rattle.std.specs.Prelude.{◌≡◌, ℕ, ◌<◌, ◌≤◌, List, length}
use Rattle.std.specs.List.{slice_index_or}

-- the first so many items became what a step makes of them, and the others are as before
pub record IsDoneTo {X : Type 0} (step : ℕ → X → X → Type 0) (d : X) (n : ℕ) (old new : List X) : Type 0 where
  pub many : length new ≡ length old
  pub done : (k : ℕ) → k < n → step k (slice_index_or old k d) (slice_index_or new k d)
  pub rest : (k : ℕ) → n ≤ k → slice_index_or new k d ≡ slice_index_or old k d

-- so did all
abbrev pub IsDone : {X : Type 0} → (ℕ → X → X → Type 0) → X → List X → List X → Type 0
IsDone step d old new = IsDoneTo step d (length old) old new
