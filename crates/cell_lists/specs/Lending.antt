-- What a list of totals becomes by what is written through a slice of it.
use Rattle.std.specs.Prelude.{ℕ, List, ◌++◌, length, take, drop}
use Rattle.std.specs.Borrow.{Lends, MutBor, Fml, Array, u64}
use Rattle.cell_lists.specs.contracts.cells.Cells.{the_row}

-- a list of totals with others in their place, in each place that it has
abbrev pub with_cells : List ℕ → List ℕ → List ℕ
with_cells old new = take (length old) (new ++ drop (length new) old)

-- the list ends with what was last written through the slice
abbrev pub LendsCells : MutBor (List ℕ) → MutBor (List ℕ) → Fml
LendsCells s r = Lends the_row (Array u64 0) s r (with_cells s.now)
