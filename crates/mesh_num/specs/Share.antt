use Rattle.std.specs.Prelude.{◌≡◌, ℕ, ◌+◌, ◌/◌, ◌%◌, ◌≤◌, nat_lt, if◌then◌else◌, map, sum}
use Rattle.std.specs.List.{range_with_len}

-- the n-th part of a total, and one more for each of the first parts while the remainder lasts
abbrev pub share : ℕ → ℕ → ℕ → ℕ
share q n j = q / n + (if nat_lt j (q % n) then 1 else 0)

-- the shares of the parts 0 to n - 1 add up to the total
abbrev pub SharesAddUp : Type 0
SharesAddUp = (q n : ℕ) → 1 ≤ n → sum (map (share q n) (range_with_len 0 n)) ≡ q
