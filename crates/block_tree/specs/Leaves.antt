-- The leaves of a tree in the order of their keys, and its inner nodes.
use Rattle.std.specs.Prelude.{◌≡◌, ℕ, zero, suc, ◌+◌, ◌*◌, ◌/◌, ◌%◌, ◌^◌, Bool, true, false, cond, ◌&&◌, nat_lt, List, [], ◌∷◌, ◌++◌, ◌↔◌, IsTrue, map}
use Rattle.std.specs.List.{flat_map, range_with_len}
use Rattle.std.specs.List.Sorted.{IsStrictlyIncreasing}
use Rattle.morton_order.specs.declared.space.Loc.{Loc}
use Rattle.morton_order.specs.declared.space.Shape.{Shape}
use Rattle.morton_order.specs.Space.{IsShape, child, parts, root_along}
use Rattle.morton_order.specs.Key.{key}
use Rattle.block_tree.specs.Tree.{IsLeaf, IsTree, is_listed}

-- nothing, or what each number below n gives
abbrev pub pieces : {X : Type 0} → Bool → ℕ → (ℕ → List X) → List X → List X
pieces true n each none = flat_map each (range_with_len 0 n)
pieces false n each none = none

-- whether a cube of 2 ^ k root blocks along each axis begins inside the domain
abbrev pub begins_inside : Shape → ℕ → ℕ → ℕ → ℕ → Bool
begins_inside s k x y z = nat_lt (x * 2 ^ k) (root_along s 0) && nat_lt (y * 2 ^ k) (root_along s 1) && nat_lt (z * 2 ^ k) (root_along s 2)

-- the root blocks in a cube of 2 ^ k along each axis, half by half
abbrev pub roots_in : ℕ → Shape → ℕ → ℕ → ℕ → List Loc
roots_in zero s x y z = cond (begins_inside s 0 x y z) (record { level = 0; l1 = x; l2 = y; l3 = z } ∷ []) []
roots_in (suc k) s x y z = pieces (begins_inside s (suc k) x y z) 8 (λ j. roots_in k s (2 * x + j % 2) (2 * y + j / 2 % 2) (2 * z + j / 4)) []

-- the root blocks in the order of their keys
unfoldable pub roots : Shape → List Loc
roots s = roots_in 16 s 0 0 0

-- the leaves below a location of a tree, child by child; k counts the levels that may follow
abbrev pub leaves_below : ℕ → ℕ → (Loc → Bool) → Loc → List Loc
leaves_below zero dims inner l = l ∷ []
leaves_below (suc k) dims inner l = pieces (inner l) (parts dims) (λ j. leaves_below k dims inner (child dims l j)) (l ∷ [])

-- the leaves of a tree in the order of their keys
unfoldable pub leaves_of : Shape → (Loc → Bool) → List Loc
leaves_of s inner = flat_map (leaves_below 10 s.dims inner) (roots s)

-- the inner nodes at and below a location, each before its children
abbrev pub inner_below : ℕ → ℕ → (Loc → Bool) → Loc → List Loc
inner_below zero dims inner l = []
inner_below (suc k) dims inner l = cond (inner l) (l ∷ []) [] ++ pieces (inner l) (parts dims) (λ j. inner_below k dims inner (child dims l j)) []

-- the inner nodes of a tree, each before its children
unfoldable pub inner_of : Shape → (Loc → Bool) → List Loc
inner_of s inner = flat_map (inner_below 10 s.dims inner) (roots s)

-- the listed leaves are the leaves of the tree, each once, by rising key
pub record AreLeavesInOrder (s : Shape) (inner : Loc → Bool) : Type 0 where
  pub rising : IsStrictlyIncreasing (map key (leaves_of s inner))
  pub leaves : (l : Loc) → IsTrue (is_listed (leaves_of s inner) l) ↔ IsLeaf s inner l

abbrev pub LeavesLaw : Type 0
LeavesLaw = (s : Shape) (inner : Loc → Bool) → IsShape s → IsTree s inner → AreLeavesInOrder s inner

-- the listed inner nodes are the inner nodes of the tree
abbrev pub InnersAreListed : Type 0
InnersAreListed = (s : Shape) (inner : Loc → Bool) → IsShape s → IsTree s inner → (l : Loc) → is_listed (inner_of s inner) l ≡ inner l
