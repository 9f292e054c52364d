-- Indices along x1, x2 and x3 in a box of cells, and their numbers, x1 fastest.
use Rattle.std.specs.Prelude.{ℕ, zero, suc, ◌+◌, ◌*◌, ◌/◌, ◌%◌, ◌<◌, Bool, ◌&&◌, nat_lt, List, [], ◌∷◌, slice_index}

-- how many cells a box of these extents has
abbrev pub count_of : List ℕ → ℕ
count_of n = slice_index n 0 * slice_index n 1 * slice_index n 2

-- the number of an index: in a box of 4 by 3 by 2 cells, 1 2 1 has the number 1 + 4 * (2 + 3 * 1) = 21
abbrev pub number_of : List ℕ → List ℕ → ℕ
number_of n i = slice_index i 0 + slice_index n 0 * (slice_index i 1 + slice_index n 1 * slice_index i 2)

-- the index of a number
abbrev pub index_of : List ℕ → ℕ → List ℕ
index_of n k = (k % slice_index n 0) ∷ (k / slice_index n 0 % slice_index n 1) ∷ (k / slice_index n 0 / slice_index n 1) ∷ []

-- an index lies in a box
pub record IsWithin (n i : List ℕ) : Type 0 where
  pub along1 : slice_index i 0 < slice_index n 0
  pub along2 : slice_index i 1 < slice_index n 1
  pub along3 : slice_index i 2 < slice_index n 2

-- whether an index lies in a box
abbrev pub is_within : List ℕ → List ℕ → Bool
is_within n i = nat_lt (slice_index i 0) (slice_index n 0) && nat_lt (slice_index i 1) (slice_index n 1) && nat_lt (slice_index i 2) (slice_index n 2)

-- an index with another number along an axis
abbrev pub with_along : ℕ → ℕ → List ℕ → List ℕ
with_along zero x i = x ∷ slice_index i 1 ∷ slice_index i 2 ∷ []
with_along (suc zero) x i = slice_index i 0 ∷ x ∷ slice_index i 2 ∷ []
with_along (suc (suc _)) x i = slice_index i 0 ∷ slice_index i 1 ∷ x ∷ []

-- two indices added
abbrev pub added : List ℕ → List ℕ → List ℕ
added i j = (slice_index i 0 + slice_index j 0) ∷ (slice_index i 1 + slice_index j 1) ∷ (slice_index i 2 + slice_index j 2) ∷ []
