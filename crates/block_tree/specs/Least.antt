-- The least balanced tree that holds what is wanted: as a relation, and level by level.
use Rattle.std.specs.Prelude.{ℕ, zero, suc, ◌+◌, ◌-◌, ◌*◌, ◌^◌, ◌<◌, ◌≤◌, Bool, ◌&&◌, ◌||◌, nat_lt, nat_le, List, ◌∷◌, All, IsTrue, slice_index}
use Rattle.std.specs.List.{list_any, list_all, range_with_len}
use Rattle.morton_order.specs.declared.space.Loc.{Loc}
use Rattle.morton_order.specs.declared.space.Shape.{Shape}
use Rattle.morton_order.specs.Space.{IsIn, IsShape, axis_of, child, is_inside, parts}
use Rattle.morton_order.specs.Neighbours.{neighbours}
use Rattle.block_tree.specs.declared.boxes.StaticBox.{StaticBox}
use Rattle.block_tree.specs.Tree.{IsTree, IsBalanced}

-- a balanced tree that holds each wanted location as an inner node
pub record HoldsWanted (s : Shape) (wanted inner : Loc → Bool) : Type 0 where
  pub tree : IsTree s inner
  pub balanced : IsBalanced s inner
  pub holds : (l : Loc) → IsTrue (wanted l) → IsTrue (inner l)

-- the least of them: each other one has all its inner nodes
pub record IsLeast (s : Shape) (wanted inner : Loc → Bool) : Type 0 where
  pub one_of : HoldsWanted s wanted inner
  pub within : (other : Loc → Bool) → HoldsWanted s wanted other → (l : Loc) → IsTrue (inner l) → IsTrue (other l)

-- a location and all that it touches on its own level
abbrev pub around : Shape → Loc → List Loc
around s l = l ∷ neighbours s l

-- whether a location has to be inner: it is wanted, or it has a child that is or touches such a location of the next level;
-- k counts the levels from it to the finest inner nodes
unfoldable pub forced : ℕ → Shape → (Loc → Bool) → Loc → Bool
forced zero s wanted l = wanted l
forced (suc k) s wanted l = wanted l || list_any (λ j. list_any (forced k s wanted) (around s (child s.dims l j))) (range_with_len 0 (parts s.dims))

-- the least balanced tree that holds what is wanted, where no location finer than a level is wanted
abbrev pub least : ℕ → Shape → (Loc → Bool) → Loc → Bool
least finest s wanted l = is_inside s l && (nat_le l.level finest && forced (finest - l.level) s wanted l)

-- what may be wanted: locations of the domain that are no finer than a level
abbrev pub MayBeWanted : ℕ → Shape → (Loc → Bool) → Type 0
MayBeWanted finest s wanted = (l : Loc) → IsTrue (wanted l) → IsIn s l × (l.level ≤ finest)

-- what is found level by level is the least balanced tree
abbrev pub LeastIsLeast : Type 0
LeastIsLeast = (finest : ℕ) (s : Shape) (wanted : Loc → Bool) → IsShape s → finest < 10 → MayBeWanted finest s wanted → IsLeast s wanted (least finest s wanted)

-- whether a location of blocks of n cells meets a range of root cells along an axis
abbrev pub meets_along : ℕ → ℕ → ℕ → ℕ → ℕ → Bool
meets_along n level x lo hi = nat_lt (x * n) ((hi + 1) * 2 ^ level) && nat_lt (lo * 2 ^ level) ((x + 1) * n)

-- whether a location meets a static box along each axis in use
abbrev pub meets : Shape → List ℕ → StaticBox → Loc → Bool
meets s cells b l = list_all (λ axis. meets_along (slice_index cells axis) l.level (axis_of l axis) (slice_index b.lo axis) (slice_index b.hi axis)) (range_with_len 0 s.dims)

-- whether static boxes want a location of the domain refined: it meets one of a greater level
abbrev pub wanted_by : Shape → List ℕ → List StaticBox → Loc → Bool
wanted_by s cells boxes l = list_any (λ (b : StaticBox). nat_lt l.level b.level && meets s cells b l) boxes && is_inside s l

-- the opening tree: the least balanced one that holds what static boxes want, where none asks for a level above the finest but one
abbrev pub opening : ℕ → Shape → List ℕ → List StaticBox → Loc → Bool
opening finest s cells boxes = least finest s (wanted_by s cells boxes)

-- the opening tree is the least balanced one that holds what static boxes want
abbrev pub OpeningIsLeast : Type 0
OpeningIsLeast = (finest : ℕ) (s : Shape) (cells : List ℕ) (boxes : List StaticBox) → IsShape s → finest < 10 → All (λ (b : StaticBox). b.level ≤ finest + 1) boxes →
    IsLeast s (wanted_by s cells boxes) (opening finest s cells boxes)
