-- Coarse cells and the fine cells in them.
use Rattle.std.specs.Prelude.{ℕ, ◌*◌, ◌/◌, ◌%◌, List, [], ◌∷◌, slice_index}
use Rattle.mesh_num.specs.Share.{share}
use Rattle.morton_order.specs.Space.{factor}
use Rattle.block_layout.specs.Indices.{added, count_of, index_of, number_of}
use Rattle.mesh_rules.specs.Sums.{sum_to, table}

-- how many fine cells lie in a coarse one along each axis: two along one in use
abbrev pub factors : ℕ → List ℕ
factors dims = factor dims 0 ∷ factor dims 1 ∷ factor dims 2 ∷ []

-- an index, or extents, of coarse cells on the fine level
abbrev pub refined : List ℕ → List ℕ → List ℕ
refined f i = (slice_index f 0 * slice_index i 0) ∷ (slice_index f 1 * slice_index i 1) ∷ (slice_index f 2 * slice_index i 2) ∷ []

-- the coarse cell that a fine one lies in
abbrev pub coarsened : List ℕ → List ℕ → List ℕ
coarsened f p = (slice_index p 0 / slice_index f 0) ∷ (slice_index p 1 / slice_index f 1) ∷ (slice_index p 2 / slice_index f 2) ∷ []

-- which of the fine cells in it that one is, x1 fastest: bit by bit the low or the high half along x1, x2 and x3
abbrev pub part_number : List ℕ → List ℕ → ℕ
part_number f p = number_of f ((slice_index p 0 % slice_index f 0) ∷ (slice_index p 1 % slice_index f 1) ∷ (slice_index p 2 % slice_index f 2) ∷ [])

-- the j-th fine cell in a coarse one: with two axes in use those in the cell 3 1 0 are 6 2 0, 7 2 0, 6 3 0 and 7 3 0
abbrev pub part_index : List ℕ → List ℕ → ℕ → List ℕ
part_index f i j = added (refined f i) (index_of f j)

-- the sum over the fine cells in a coarse one
abbrev pub sum_in : List ℕ → (List ℕ → ℕ) → List ℕ → ℕ
sum_in f fine i = sum_to (count_of f) (λ j. fine (part_index f i j))

-- the share that a fine cell gets of its coarse one
abbrev pub share_in : List ℕ → (List ℕ → ℕ) → List ℕ → ℕ
share_in f coarse p = share (coarse (coarsened f p)) (count_of f) (part_number f p)

-- the number at an index of a box that is a whole list
abbrev pub at_index : List ℕ → List ℕ → List ℕ → ℕ
at_index n list i = slice_index list (number_of n i)

-- the sums in a box of n coarse cells
abbrev pub restricted : ℕ → List ℕ → List ℕ → List ℕ
restricted dims n fine = table (count_of n) (λ k. sum_in (factors dims) (at_index (refined (factors dims) n) fine) (index_of n k))

-- the shares of the fine cells in a box of n coarse cells: 3 2 0 0 of 5 0 in one dimension
abbrev pub prolonged : ℕ → List ℕ → List ℕ → List ℕ
prolonged dims n coarse = table (count_of (refined (factors dims) n)) (λ k. share_in (factors dims) (at_index n coarse) (index_of (refined (factors dims) n) k))
