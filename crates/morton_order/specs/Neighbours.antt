-- What lies beside a location on its own level.
use Rattle.std.specs.Prelude.{◌≡◌, ◌==◌, ℕ, zero, suc, ◌+◌, ◌-◌, ◌/◌, ◌%◌, Bool, true, false, cond, ◌&&◌, ◌||◌, nat_lt, Option, Some, None, List, All, Contains, IsTrue, ◌⊎◌}
use Rattle.std.specs.List.{filter_map, range_with_len}
use Rattle.std.specs.Option.{option_map}
use Rattle.morton_order.specs.declared.space.Loc.{Loc}
use Rattle.morton_order.specs.declared.space.Shape.{Shape}
use Rattle.morton_order.specs.Space.{IsIn, IsShape, axis_of, blocks_along, wraps}

-- one step up or down along an axis of n places, round its end where it wraps
abbrev pub step : ℕ → Bool → Bool → ℕ → Option ℕ
step n wrap true x = cond (nat_lt (x + 1) n) (Some (x + 1)) (cond wrap (Some 0) None)
step n wrap false x = cond (nat_lt 0 x) (Some (x - 1)) (cond wrap (Some (n - 1)) None)

-- the location at another coordinate along an axis
abbrev pub moved : Loc → ℕ → ℕ → Loc
moved l zero x = record l { l1 = x }
moved l (suc zero) x = record l { l2 = x }
moved l (suc (suc _)) x = record l { l3 = x }

-- the coordinate one step up or down from a location along an axis
abbrev pub beside : Shape → Loc → ℕ → Bool → Option ℕ
beside s l axis high = step (blocks_along s axis l.level) (wraps s axis) high (axis_of l axis)

-- the location across a side, none beyond a face of the domain
abbrev pub across : Shape → Loc → ℕ → Bool → Option Loc
across s l axis high = option_map (moved l axis) (beside s l axis high)

-- the coordinate at the offset -1, 0 or 1 along an axis, numbered 0, 1 and 2; along an axis that is not in use only 0 is there
abbrev pub at_offset : Shape → Loc → ℕ → ℕ → Option ℕ
at_offset s l axis zero = cond (nat_lt axis s.dims) (beside s l axis false) None
at_offset s l axis (suc zero) = Some (axis_of l axis)
at_offset s l axis (suc (suc _)) = cond (nat_lt axis s.dims) (beside s l axis true) None

-- the location at three coordinates, where all three are there
abbrev pub at_coordinates : ℕ → Option ℕ → Option ℕ → Option ℕ → Option Loc
at_coordinates level (Some x) (Some y) (Some z) = Some (record { level = level; l1 = x; l2 = y; l3 = z })
at_coordinates level _ _ _ = None

-- the location at the offsets whose numbers are the three digits of k to base three, that of x1 lowest
abbrev pub at_offsets : Shape → Loc → ℕ → Option Loc
at_offsets s l k = at_coordinates l.level (at_offset s l 0 (k % 3)) (at_offset s l 1 (k / 3 % 3)) (at_offset s l 2 (k / 9))

-- the neighbour of that number: none at the zero offset, which is number 13, and none outside of the domain
abbrev pub neighbour : Shape → Loc → ℕ → Option Loc
neighbour s l k = cond (k == 13) None (at_offsets s l k)

-- the neighbours over faces, edges and corners, x1 fastest; wrapped ones may repeat
abbrev pub neighbours : Shape → Loc → List Loc
neighbours s l = filter_map (neighbour s l) (range_with_len 0 27)

-- two places along an axis of n are the same or next to each other, also round its end where it wraps
abbrev pub is_near : ℕ → Bool → ℕ → ℕ → Bool
is_near n wrap x y = x == y || x + 1 == y || y + 1 == x || (wrap && ((x + 1 == n && y == 0) || (y + 1 == n && x == 0)))

-- two locations of one level touch, over a face, an edge or a corner, or are one
pub record AreNeighbours (s : Shape) (l m : Loc) : Type 0 where
  pub level : m.level ≡ l.level
  pub near1 : IsTrue (is_near (blocks_along s 0 l.level) (wraps s 0) l.l1 m.l1)
  pub near2 : IsTrue (is_near (blocks_along s 1 l.level) (wraps s 1) l.l2 m.l2)
  pub near3 : IsTrue (is_near (blocks_along s 2 l.level) (wraps s 2) l.l3 m.l3)

-- what touches a location, touched by it: to touch is mutual
abbrev pub TouchingIsMutual : Type 0
TouchingIsMutual = (s : Shape) (l m : Loc) → AreNeighbours s l m → AreNeighbours s m l

-- the neighbours of a location lie in the domain and touch it, and all that touches it is among them, but for itself
abbrev pub NeighboursAreExact : Type 0
NeighboursAreExact = (s : Shape) (l : Loc) → IsShape s → IsIn s l →
    All (λ m. IsIn s m × AreNeighbours s l m) (neighbours s l)
    × ((m : Loc) → IsIn s m → AreNeighbours s l m → (m ≡ l) ⊎ Contains (neighbours s l) m)
