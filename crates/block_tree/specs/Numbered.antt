-- What is behind a side, by the numbers of leaves.
use Rattle.std.specs.Prelude.{ℕ, Option, Some, List, [], ◌∷◌}
use Rattle.std.specs.Option.{option_map, option_and_then}
use Rattle.morton_order.specs.declared.space.Loc.{Loc}
use Rattle.block_tree.specs.declared.neighbour.Behind.{Behind as Answer}
use Rattle.block_tree.specs.declared.neighbour.Behind.TheVariants.{Outside, Same, Coarse, Fine}
use Rattle.block_tree.specs.Behind.{Behind, outside, same, coarse, fine}
use Rattle.block_tree.specs.Nodes.{number_in}

-- the numbers of some leaves, none where one of them is not listed
abbrev pub numbers_in : List Loc → List Loc → Option (List ℕ)
numbers_in leaves [] = Some []
numbers_in leaves (o ∷ os) = option_and_then (λ n. option_map (λ (ns : List ℕ). n ∷ ns) (numbers_in leaves os)) (number_in leaves o)

-- what is behind a side, with numbers of leaves for the leaves; none where one of them is not listed
abbrev pub numbered : List Loc → Behind → Option Answer
numbered leaves outside = Some Outside
numbered leaves (same o) = option_map Same (number_in leaves o)
numbered leaves (coarse o) = option_map Coarse (number_in leaves o)
numbered leaves (fine os) = option_map Fine (numbers_in leaves os)
