-- For the code: the lists to which the letters of a leaf go.
use Rattle.std.specs.Prelude.{ℕ, ◌/◌, Bool, true, false, List, [], ◌∷◌, ◌++◌, length, map}
use Rattle.std.specs.List.{flat_map, position_or_len, range_with_len, slice_index_or}
use Rattle.morton_order.specs.declared.space.Loc.{Loc}
use Rattle.morton_order.specs.Space.{same_loc}
use Rattle.block_tree.specs.declared.neighbour.Behind.{Behind as Answer}
use Rattle.block_tree.specs.declared.neighbour.Behind.TheVariants.{Outside, Same, Coarse, Fine}
use Rattle.block_tree.specs.Behind.{Behind, behind}
use Rattle.block_tree.specs.Blocks.{TreeOfBlocks, is_inner_of, leaves}
use Rattle.due_counts.specs.DueLetters.{list_in}

-- the numbers of the leaves behind a side, and of a coarser one
abbrev pub all_of : Answer → List ℕ
all_of Outside = []
all_of (Same n) = n ∷ []
all_of (Coarse n) = n ∷ []
all_of (Fine ns) = ns

abbrev pub coarser_of : Answer → List ℕ
coarser_of Outside = []
coarser_of (Same n) = []
coarser_of (Coarse n) = n ∷ []
coarser_of (Fine ns) = []

-- the lists of some leaves
abbrev pub divided : ℕ → List ℕ → List ℕ
divided size ns = map (λ n. n / size) ns

-- the list of a location
abbrev pub list_at : TreeOfBlocks → ℕ → Loc → ℕ
list_at t size o = list_in size (length (leaves t)) (position_or_len (same_loc o) (leaves t))

-- the leaf with a number
abbrev pub leaf_of : TreeOfBlocks → ℕ → Loc
leaf_of t leaf = slice_index_or (leaves t) leaf (record { level = 0; l1 = 0; l2 = 0; l3 = 0 })

-- the lists of the receivers behind a side of a leaf, behind all its sides, and of those of all leaves
abbrev pub lists_behind : TreeOfBlocks → ℕ → (Behind → List Loc) → Loc → ℕ → Bool → List ℕ
lists_behind t size receivers l axis high = map (list_at t size) (receivers (behind t.shape (is_inner_of t) l axis high))

abbrev pub lists_around : TreeOfBlocks → ℕ → (Behind → List Loc) → Loc → List ℕ
lists_around t size receivers l = flat_map
    (λ axis. lists_behind t size receivers l axis false ++ lists_behind t size receivers l axis true)
    (range_with_len 0 t.shape.dims)

abbrev pub side_lists : TreeOfBlocks → ℕ → (Behind → List Loc) → ℕ → ℕ → Bool → List ℕ
side_lists t size receivers leaf axis high = lists_behind t size receivers (leaf_of t leaf) axis high

abbrev pub leaf_lists : TreeOfBlocks → ℕ → (Behind → List Loc) → ℕ → List ℕ
leaf_lists t size receivers leaf = lists_around t size receivers (leaf_of t leaf)

abbrev pub all_lists : TreeOfBlocks → ℕ → (Behind → List Loc) → List ℕ
all_lists t size receivers = flat_map (leaf_lists t size receivers) (range_with_len 0 (length (leaves t)))
