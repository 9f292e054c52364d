-- What is behind a side of a leaf.
use Rattle.std.specs.Prelude.{◌≡◌, ◌==◌, ◌⊎◌, ℕ, zero, suc, ◌+◌, ◌-◌, ◌*◌, ◌/◌, ◌%◌, ◌^◌, ◌<◌, Bool, true, false, cond, not, IsTrue, Option, Some, None, List, Contains, map, ◌↔◌}
use Rattle.std.specs.List.{filter, range_with_len}
use Rattle.morton_order.specs.declared.space.Loc.{Loc}
use Rattle.morton_order.specs.declared.space.Shape.{Shape}
use Rattle.morton_order.specs.Space.{IsShape, axis_of, blocks_along, child, parent, parts, wraps}
use Rattle.morton_order.specs.Neighbours.{across}
use Rattle.block_tree.specs.Tree.{IsBalanced, IsLeaf, IsTree, is_node}

-- whether child j is the high half along an axis
abbrev pub is_high_half : ℕ → ℕ → Bool
is_high_half j zero = j % 2 == 1
is_high_half j (suc zero) = j / 2 % 2 == 1
is_high_half j (suc (suc _)) = j / 4 % 2 == 1

-- the children at a side, by rising number
abbrev pub children_at : ℕ → ℕ → Bool → List ℕ
children_at dims axis high = filter (λ j. cond high (is_high_half j axis) (not (is_high_half j axis))) (range_with_len 0 (parts dims))

-- what stands behind a side: a face of the domain, one leaf of the same or the next coarser level, or leaves of the next finer one
pub data Behind : Type 0 where
  outside : Behind
  same : Loc → Behind
  coarse : Loc → Behind
  fine : List Loc → Behind

-- what stands behind a side, from the location across it
abbrev pub behind_at : Shape → (Loc → Bool) → ℕ → Bool → Option Loc → Behind
behind_at s inner axis high None = outside
behind_at s inner axis high (Some o) = cond (inner o) (fine (map (child s.dims o) (children_at s.dims axis (not high)))) (cond (is_node s inner o) (same o) (coarse (parent s.dims o)))

-- what stands behind a side of a leaf
abbrev pub behind : Shape → (Loc → Bool) → Loc → ℕ → Bool → Behind
behind s inner l axis high = behind_at s inner axis high (across s l axis high)

-- whether a location is among those that stand behind a side
abbrev pub Names : Behind → Loc → Type 0
Names outside m = ⊥
Names (same o) m = m ≡ o
Names (coarse o) m = m ≡ o
Names (fine os) m = Contains os m

-- where a location begins and where it ends along an axis in use, on the lattice of level 10: a root, the first along its axis, from 0 to 1024
abbrev pub low_end : Loc → ℕ → ℕ
low_end l axis = axis_of l axis * 2 ^ (10 - l.level)

abbrev pub high_end : Loc → ℕ → ℕ
high_end l axis = (axis_of l axis + 1) * 2 ^ (10 - l.level)

-- the high face of one location and the low face of another lie in one plane, also round the end of an axis that wraps
abbrev pub MeetInPlane : Shape → ℕ → Loc → Loc → Type 0
MeetInPlane s axis l m = (high_end l axis ≡ low_end m axis) ⊎ (IsTrue (wraps s axis) × (high_end l axis ≡ blocks_along s axis 10) × (low_end m axis ≡ 0))

-- the face at a side of one location and the opposite face of another lie in one plane
abbrev pub IsOnePlane : Shape → ℕ → Bool → Loc → Loc → Type 0
IsOnePlane s axis true l m = MeetInPlane s axis l m
IsOnePlane s axis false l m = MeetInPlane s axis m l

-- two locations have a part in common along an axis
abbrev pub Overlap : ℕ → Loc → Loc → Type 0
Overlap axis l m = (low_end l axis < high_end m axis) × (low_end m axis < high_end l axis)

-- a location touches a side of another: their faces lie in one plane and overlap along the other axes
pub record TouchesSide (s : Shape) (axis : ℕ) (high : Bool) (l m : Loc) : Type 0 where
  pub plane : IsOnePlane s axis high l m
  pub overlap : (other : ℕ) → other < s.dims → ¬ (other ≡ axis) → Overlap other l m

-- what is named behind a side of a leaf of a balanced tree is exactly the leaves that touch the side
abbrev pub BehindIsExact : Type 0
BehindIsExact = (s : Shape) (inner : Loc → Bool) → IsShape s → IsTree s inner → IsBalanced s inner →
    (l m : Loc) (axis : ℕ) (high : Bool) → IsLeaf s inner l → axis < s.dims →
    Names (behind s inner l axis high) m ↔ (IsLeaf s inner m × TouchesSide s axis high l m)

-- a leaf stands behind a side of another exactly where that one stands behind the opposite side of it
abbrev pub BehindIsMutual : Type 0
BehindIsMutual = (s : Shape) (inner : Loc → Bool) → IsShape s → IsTree s inner → IsBalanced s inner →
    (l m : Loc) (axis : ℕ) (high : Bool) → IsLeaf s inner l → IsLeaf s inner m → axis < s.dims →
    Names (behind s inner l axis high) m ↔ Names (behind s inner m axis (not high)) l
