-- Sums of a field's totals in lists.
use Rattle.std.specs.Prelude.{ℕ, List, sum}
use Rattle.std.specs.List.{sum_by}

-- the sum over all blocks
abbrev pub list_total : List (List ℕ) → ℕ
list_total lists = sum_by (λ (cells : List ℕ). sum cells) lists
