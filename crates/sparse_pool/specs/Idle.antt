-- When a field of a pool is idle on a block, and when it is freed there.
use Rattle.std.specs.Prelude.{ℕ, ◌+◌, Bool, true, false, List, nat_eq, nat_le}
use Rattle.std.specs.List.{list_all}
use Rattle.sparse_pool.specs.declared.idle.Checked.{Checked}

-- whether no cell is above the threshold
abbrev pub idle : List ℕ → ℕ → Bool
idle cells threshold = list_all (λ c. nat_le c threshold) cells

-- the count after a check of a field that was idle at that many checks in a row, and whether the field is then freed:
-- with the limit 3 an idle field goes from 1 to 2 and stays, goes from 2 to 3 and is freed; one that is not idle goes to 0
abbrev pub checked : ℕ → Bool → ℕ → Checked
checked count true limit = record { count = count + 1; free = nat_eq (count + 1) limit }
checked count false limit = record { count = 0; free = false }
