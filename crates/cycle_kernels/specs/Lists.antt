-- The list of a block with its ghosts, and the block's own totals and its ghosts apart.
use Rattle.std.specs.Prelude.{ℕ, ◌-◌, Bool, cond, List, [], ◌∷◌, slice_index}
use Rattle.mesh_rules.specs.Sums.{table}
use Rattle.block_layout.specs.declared.layout.Layout.{Layout}
use Rattle.block_layout.specs.Indices.{index_of, number_of}
use Rattle.block_layout.specs.Layouts.{interior_len, len, widths}
use Rattle.block_layout.specs.Regions.{cell_place, covers, interior}

-- an index less another one: 3 4 0 less 2 2 0 is 1 2 0
abbrev pub less : List ℕ → List ℕ → List ℕ
less i low = (slice_index i 0 - slice_index low 0) ∷ (slice_index i 1 - slice_index low 1) ∷ (slice_index i 2 - slice_index low 2) ∷ []

-- the index of a place of such a list, counted from the first ghost
abbrev pub index_at : Layout → ℕ → List ℕ
index_at l place = index_of (widths l) place

-- whether the block's own cell lies there, and the number of that cell
abbrev pub is_own : Layout → ℕ → Bool
is_own l place = covers (interior l) (index_at l place)

abbrev pub own_number : Layout → ℕ → ℕ
own_number l place = number_of l.cells (less (index_at l place) (interior l).low)

-- the list of a block that has these totals of its own, and the ghosts of another list
abbrev pub with_ghosts : Layout → List ℕ → List ℕ → List ℕ
with_ghosts l own ghosts = table (len l) (λ place. cond (is_own l place) (slice_index own (own_number l place)) (slice_index ghosts place))

-- the totals that a block itself has in its list, x1 fastest
abbrev pub own_totals : Layout → List ℕ → List ℕ
own_totals l cells = table (interior_len l) (λ k. slice_index cells (cell_place l (interior l) k))

-- the ghosts in it, with zeros in the place of its own totals
abbrev pub ghosts_in : Layout → List ℕ → List ℕ
ghosts_in l cells = table (len l) (λ place. cond (is_own l place) 0 (slice_index cells place))
