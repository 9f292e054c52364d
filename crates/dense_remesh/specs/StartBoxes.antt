-- For the code: what boxes put into root cells, and its shares in the cells of finer levels.
use Rattle.std.specs.Prelude.{◌≡◌, ℕ, zero, suc, ◌+◌, ◌-◌, ◌*◌, ◌/◌, ◌%◌, Bool, cond, ◌&&◌, nat_le, List, [], ◌∷◌, slice_index}
use Rattle.morton_order.specs.declared.space.Loc.{Loc}
use Rattle.morton_order.specs.Space.{child_number, factor, parent, parts}
use Rattle.mesh_num.specs.Share.{share}
use Rattle.deck_entries.specs.declared.entries.StartBox.{StartBox}
use Rattle.mesh_rules.specs.Sums.{sum_over, table}
use Rattle.mesh_rules.specs.Opening.{holds}
use Rattle.block_layout.specs.Indices.{count_of}

-- the cell of a level at three coordinates
abbrev pub cell_of : ℕ → List ℕ → Loc
cell_of level cell = record { level = level; l1 = slice_index cell 0; l2 = slice_index cell 1; l3 = slice_index cell 2 }

-- the coordinates of the cell at a place of a block of some cells along each axis
abbrev pub cell_of_block : List ℕ → Loc → ℕ → List ℕ
cell_of_block n l place =
    (l.l1 * slice_index n 0 + place % slice_index n 0)
    ∷ (l.l2 * slice_index n 1 + place / slice_index n 0 % slice_index n 1)
    ∷ (l.l3 * slice_index n 2 + place / slice_index n 0 / slice_index n 1) ∷ []

-- those of its first and of its last cell
abbrev pub first_of_block : List ℕ → Loc → List ℕ
first_of_block n l = (l.l1 * slice_index n 0) ∷ (l.l2 * slice_index n 1) ∷ (l.l3 * slice_index n 2) ∷ []

abbrev pub last_of_block : List ℕ → Loc → List ℕ
last_of_block n l = (l.l1 * slice_index n 0 + (slice_index n 0 - 1)) ∷ (l.l2 * slice_index n 1 + (slice_index n 1 - 1)) ∷ (l.l3 * slice_index n 2 + (slice_index n 2 - 1)) ∷ []

-- the coordinates of a cell's parent
abbrev pub coarser : ℕ → List ℕ → List ℕ
coarser dims cell = (slice_index cell 0 / factor dims 0) ∷ (slice_index cell 1 / factor dims 1) ∷ (slice_index cell 2 / factor dims 2) ∷ []

-- the coordinates of the root cell that a cell so many levels finer lies in
abbrev pub root_of : ℕ → ℕ → List ℕ → List ℕ
root_of dims zero cell = slice_index cell 0 ∷ slice_index cell 1 ∷ slice_index cell 2 ∷ []
root_of dims (suc level) cell = root_of dims level (coarser dims cell)

-- whether a box meets the root cells between two
abbrev pub meets : StartBox → List ℕ → List ℕ → Bool
meets b low high =
    (nat_le (slice_index b.lo 0) (slice_index high 0) && nat_le (slice_index low 0) (slice_index b.hi 0))
    && (nat_le (slice_index b.lo 1) (slice_index high 1) && nat_le (slice_index low 1) (slice_index b.hi 1))
    && (nat_le (slice_index b.lo 2) (slice_index high 2) && nat_le (slice_index low 2) (slice_index b.hi 2))

-- the sum of the amounts of boxes
abbrev pub amounts : List StartBox → ℕ
amounts boxes = sum_over boxes (λ (b : StartBox). b.amount)

-- what boxes put into a root cell
abbrev pub root_total : List StartBox → Loc → ℕ
root_total boxes c = sum_over boxes (λ (b : StartBox). cond (holds b c) b.amount 0)

-- the share of a cell so many levels below the roots, of what its root cell has
abbrev pub spread_over : ℕ → ℕ → (Loc → ℕ) → Loc → ℕ
spread_over zero dims each c = each c
spread_over (suc coarser) dims each c = share (spread_over coarser dims each (parent dims c)) (parts dims) (child_number dims c)

-- the list of a block: the shares of its cells
abbrev pub opening_list : ℕ → List ℕ → List StartBox → Loc → List ℕ
opening_list dims cells boxes l = table (count_of cells) (λ place. spread_over l.level dims (root_total boxes) (cell_of l.level (cell_of_block cells l place)))

-- some boxes put into a block what all do
abbrev pub MakeSame : ℕ → List ℕ → Loc → List StartBox → List StartBox → Type 0
MakeSame dims cells l some all = opening_list dims cells some l ≡ opening_list dims cells all l
