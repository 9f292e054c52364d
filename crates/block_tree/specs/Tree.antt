-- A tree of blocks is a set of inner nodes, given as a test of locations.
use Rattle.std.specs.Prelude.{◌≡◌, ◌==◌, ℕ, zero, suc, ◌<◌, ◌≤◌, Bool, ◌||◌, List, IsTrue}
use Rattle.std.specs.List.{list_any}
use Rattle.morton_order.specs.declared.space.Loc.{Loc}
use Rattle.morton_order.specs.declared.space.Shape.{Shape}
use Rattle.morton_order.specs.Space.{IsIn, parent, same_loc}
use Rattle.morton_order.specs.Neighbours.{AreNeighbours}

-- whether a location stands in a list
abbrev pub is_listed : List Loc → Loc → Bool
is_listed list l = list_any (same_loc l) list

-- the inner nodes lie in the domain, leave room for children, and are closed under parent
pub record IsTree (s : Shape) (inner : Loc → Bool) : Type 0 where
  pub inside : (l : Loc) → IsTrue (inner l) → IsIn s l
  pub above_finest : (l : Loc) → IsTrue (inner l) → l.level < 10
  pub closed : (l : Loc) → IsTrue (inner l) → 1 ≤ l.level → IsTrue (inner (parent s.dims l))

-- whether a location is a node of the tree, inner or a leaf: a root, or a child of an inner node
abbrev pub is_node : Shape → (Loc → Bool) → Loc → Bool
is_node s inner l = l.level == 0 || inner (parent s.dims l)

-- a leaf: a node that is not inner
pub record IsLeaf (s : Shape) (inner : Loc → Bool) (l : Loc) : Type 0 where
  pub inside : IsIn s l
  pub node : IsTrue (is_node s inner l)
  pub outer : ¬ (IsTrue (inner l))

-- the location that many levels above
abbrev pub ancestor : ℕ → ℕ → Loc → Loc
ancestor dims zero l = l
ancestor dims (suc levels) l = ancestor dims levels (parent dims l)

-- a location lies in another, or is it
pub record LiesIn (dims : ℕ) (l m : Loc) : Type 0 where
  pub levels : ℕ
  pub enough : levels ≤ l.level
  pub is : ancestor dims levels l ≡ m

-- balanced two to one: all that an inner node touches on its own level, over faces, edges and corners, are nodes
abbrev pub IsBalanced : Shape → (Loc → Bool) → Type 0
IsBalanced s inner = (l m : Loc) → IsTrue (inner l) → IsIn s m → AreNeighbours s l m → IsTrue (is_node s inner m)
