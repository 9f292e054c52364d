-- What the loops over the blocks of a kind keep.
use Rattle.std.proofs.Common.{◌≡◌, ℕ, List, length, take, All, Result, Ok}
use Rattle.deck_values.specs.declared.fault.ProblemFault.{ProblemFault}
use Rattle.deck_values.specs.Reading.{each}

-- the blocks before an index are read, and each keeps its facts
pub record IsReadTo {A B : Type 0} (row : A → Result B ProblemFault) (fact : B → Type 0) (names : List A) (i : ℕ) (list : List B) : Type 0 where
  pub read : each row (take i names) ≡ Ok list
  pub sound : All fact list
  pub as_many : length list ≡ i
