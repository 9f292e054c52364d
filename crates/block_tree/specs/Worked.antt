-- Small worked trees, with their nodes written out.
use Rattle.std.specs.Prelude.{◌≡◌, ℕ, Bool, true, false, List, [], ◌∷◌, length}
use Rattle.morton_order.specs.declared.space.Loc.{Loc}
use Rattle.morton_order.specs.declared.space.Shape.{Shape}
use Rattle.block_tree.specs.declared.boxes.StaticBox.{StaticBox}
use Rattle.block_tree.specs.declared.tags.Tag.{Tag}
use Rattle.block_tree.specs.declared.tags.Tag.TheVariants.{Refine, Same, Merge}
use Rattle.block_tree.specs.Tree.{is_listed}
use Rattle.block_tree.specs.Leaves.{inner_of, leaves_of}
use Rattle.block_tree.specs.Least.{opening, wanted_by}
use Rattle.block_tree.specs.Behind.{behind, fine}
use Rattle.block_tree.specs.Next.{next_inner, tag_at}

-- a location
abbrev pub at : ℕ → ℕ → ℕ → ℕ → Loc
at level x y z = record { level = level; l1 = x; l2 = y; l3 = z }

-- a lattice of roots that does not wrap
abbrev pub closed : ℕ → ℕ → ℕ → ℕ → Shape
closed dims r1 r2 r3 = record { dims = dims; root = r1 ∷ r2 ∷ r3 ∷ []; wrap = false ∷ false ∷ false ∷ [] }

-- the inner nodes of a tree, each before its children
abbrev pub inner_nodes : Shape → (Loc → Bool) → List Loc
inner_nodes s inner = inner_of s inner

-- one row of roots: a box on the first of its root cells wants the first root, and nothing off the row
abbrev pub row_box : List StaticBox
row_box = record { level = 1; lo = 0 ∷ 0 ∷ 0 ∷ []; hi = 0 ∷ 0 ∷ 0 ∷ [] } ∷ []

abbrev pub row_wants : Loc → Bool
row_wants = wanted_by (closed 1 2 1 1) (4 ∷ 1 ∷ 1 ∷ []) row_box

-- two by two roots of four by four cells, refined to level 2 on the root cell in the middle
abbrev pub four_roots : Shape
four_roots = closed 2 2 2 1

abbrev pub corner_box : List StaticBox
corner_box = record { level = 2; lo = 3 ∷ 3 ∷ 0 ∷ []; hi = 3 ∷ 3 ∷ 0 ∷ [] } ∷ []

abbrev pub corner_tree : Loc → Bool
corner_tree = opening 1 four_roots (4 ∷ 4 ∷ 1 ∷ []) corner_box

-- the tags of its leaves: those of the last root, which stand last, may merge
abbrev pub corner_tags : List Tag
corner_tags = Same ∷ Same ∷ Same ∷ Same ∷ Same ∷ Same ∷ Same ∷ Same ∷ Same ∷ Same ∷ Same ∷ Same ∷ Same ∷ Same ∷ Same ∷ Merge ∷ Merge ∷ Merge ∷ Merge ∷ []

-- one root with four leaves
abbrev pub one_root : Shape
one_root = closed 2 1 1 1

abbrev pub quartered : Loc → Bool
quartered = is_listed (at 0 0 0 0 ∷ [])

abbrev pub next_leaves : Shape → (Loc → Bool) → List Tag → List Loc
next_leaves s inner tags = leaves_of s (next_inner 1 s inner (tag_at (leaves_of s inner) tags))

-- two roots in three dimensions, the first of them with eight leaves
abbrev pub two_cubes : Shape
two_cubes = closed 3 2 1 1

abbrev pub WorkedTrees : Type 0
WorkedTrees = (row_wants (at 0 0 0 0) ≡ true)
    × (row_wants (at 0 1 0 0) ≡ false)
    × (row_wants (at 0 0 1 0) ≡ false)
    × (row_wants (at 0 0 0 1) ≡ false)
    × (inner_nodes four_roots corner_tree ≡ at 0 0 0 0 ∷ at 1 1 1 0 ∷ at 0 1 0 0 ∷ at 0 0 1 0 ∷ at 0 1 1 0 ∷ [])
    × (length (leaves_of four_roots corner_tree) ≡ 19)
    × (length (next_leaves four_roots corner_tree corner_tags) ≡ 19)
    × (length (next_leaves one_root quartered (Merge ∷ Merge ∷ Merge ∷ Same ∷ [])) ≡ 4)
    × (next_leaves one_root quartered (Merge ∷ Merge ∷ Merge ∷ Merge ∷ []) ≡ at 0 0 0 0 ∷ [])
    × (length (next_leaves one_root quartered (Same ∷ Refine ∷ Same ∷ Same ∷ [])) ≡ 7)
    × (behind two_cubes quartered (at 0 1 0 0) 0 false ≡ fine (at 1 1 0 0 ∷ at 1 1 1 0 ∷ at 1 1 0 1 ∷ at 1 1 1 1 ∷ []))
