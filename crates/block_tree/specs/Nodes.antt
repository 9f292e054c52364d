-- A set of locations in the order in which they were found.
use Rattle.std.specs.Prelude.{ℕ, cond, Option, List, [], ◌∷◌, ◌++◌, position}
use Rattle.morton_order.specs.declared.space.Loc.{Loc}
use Rattle.morton_order.specs.Space.{same_loc}
use Rattle.block_tree.specs.Tree.{is_listed}

-- one more location at the end, where it is not listed yet
abbrev pub with_node : List Loc → Loc → List Loc
with_node ls l = cond (is_listed ls l) ls (ls ++ l ∷ [])

-- the number of a location in a list, none where it is not listed
abbrev pub number_in : List Loc → Loc → Option ℕ
number_in ls l = position (same_loc l) ls

-- some locations put into a set, one after another
abbrev pub with_nodes : List Loc → List Loc → List Loc
with_nodes ls [] = ls
with_nodes ls (x ∷ xs) = with_nodes (with_node ls x) xs
