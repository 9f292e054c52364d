-- What holds of restriction and prolongation.
use Rattle.std.specs.Prelude.{◌≡◌, ℕ, ◌≤◌, List, length}
use Rattle.block_layout.specs.Indices.{count_of}
use Rattle.restrict_prolong.specs.Refined.{prolonged, restricted}

-- the sums over the shares of coarse cells are these cells again
abbrev pub SharesAreRestored : Type 0
SharesAreRestored = (dims : ℕ) (n coarse : List ℕ) → 1 ≤ dims → dims ≤ 3 → length coarse ≡ count_of n → restricted dims n (prolonged dims n coarse) ≡ coarse
