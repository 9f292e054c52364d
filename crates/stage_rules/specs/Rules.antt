-- What becomes of a number of a row.
use Rattle.std.specs.Prelude.{ℕ, ◌+◌, ◌-◌, ◌/◌, ◌<◌, ◌≤◌, ◌^◌, min}
use Rattle.row_updates.specs.Numbers.{Numbers}

-- a cell after what passes its two faces of an axis: the first number is what passes its low face to the right, the second its
-- high face to the right, the third its low face to the left, the fourth its high face to the left
abbrev pub after_pass : Numbers → ℕ
after_pass n = n.own + (n.first + n.fourth) - (n.third + n.second)

-- it can pay, and what it gains leaves it below 2^63
pub record Passes (n : Numbers) : Type 0 where
  pub pays : n.third + n.second ≤ n.own
  pub small : n.own + (n.first + n.fourth) < 2 ^ 63

-- a cell's total reconstructed at the face ahead of it with a limited slope: half of the smaller difference to its two
-- neighbours more where the totals rise towards the face, and less where they fall; 4 between 0 and 8 counts for 6,
-- 4 between 8 and 0 for 2, and 8 between 4 and 0 for itself
abbrev pub limited : ℕ → ℕ → ℕ → ℕ
limited behind here ahead = here + min (here - behind) (ahead - here) / 2 - min (behind - here) (here - ahead) / 2
