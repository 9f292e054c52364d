-- How large blocks are.
use Rattle.std.specs.Prelude.{◌≡◌, ℕ, ◌%◌, ◌<◌, ◌≤◌, cond, nat_lt, List, length, slice_index}

-- an even number of cells from 4 to 64 along an axis in use, one along an axis that is not
pub record IsCellCount (dims axis cells : ℕ) : Type 0 where
  pub least : 1 ≤ cells
  pub most : cells ≤ cond (nat_lt axis dims) 64 1
  pub wide : axis < dims → 4 ≤ cells
  pub even : axis < dims → cells % 2 ≡ 0

-- the blocks of a mesh with one to three axes in use
pub record IsLayout (dims : ℕ) (cells : List ℕ) : Type 0 where
  pub least : 1 ≤ dims
  pub most : dims ≤ 3
  pub three : length cells ≡ 3
  pub cells1 : IsCellCount dims 0 (slice_index cells 0)
  pub cells2 : IsCellCount dims 1 (slice_index cells 1)
  pub cells3 : IsCellCount dims 2 (slice_index cells 2)
