-- For the code: indices that the machine has.
use Rattle.std.specs.Prelude.{ℕ, ◌<◌, ◌^◌, List, slice_index}

-- each of them fits a number of the machine
pub record AreIndices (e : List ℕ) : Type 0 where
  pub along1 : slice_index e 0 < 2 ^ 64
  pub along2 : slice_index e 1 < 2 ^ 64
  pub along3 : slice_index e 2 < 2 ^ 64
