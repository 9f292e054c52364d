-- Locations on the lattices of a mesh, for one to three axes in use.
use Rattle.std.specs.Prelude.{ℕ, zero, suc, ◌+◌, ◌-◌, ◌*◌, ◌/◌, ◌%◌, ◌^◌, ◌<◌, ◌≤◌, Bool, false, cond, ◌==◌, ◌&&◌, nat_le, nat_lt, slice_index}
use Rattle.std.specs.List.{slice_index_or}
use Rattle.morton_order.specs.declared.space.Loc.{Loc}
use Rattle.morton_order.specs.declared.space.Shape.{Shape}

-- whether two locations are one
abbrev pub same_loc : Loc → Loc → Bool
same_loc l m = l.level == m.level && l.l1 == m.l1 && l.l2 == m.l2 && l.l3 == m.l3

-- into how many parts refinement cuts a location along an axis: 2 where the axis is in use, else 1
abbrev pub factor : ℕ → ℕ → ℕ
factor dims axis = cond (nat_lt axis dims) 2 1

-- how many children a location has
abbrev pub parts : ℕ → ℕ
parts dims = factor dims 0 * factor dims 1 * factor dims 2

-- the coordinate along an axis
abbrev pub axis_of : Loc → ℕ → ℕ
axis_of l zero = l.l1
axis_of l (suc zero) = l.l2
axis_of l (suc (suc _)) = l.l3

-- how many root blocks lie along an axis
abbrev pub root_along : Shape → ℕ → ℕ
root_along s axis = slice_index s.root axis

-- whether an axis wraps round
abbrev pub wraps : Shape → ℕ → Bool
wraps s axis = slice_index_or s.wrap axis false

-- how many locations of a level lie along an axis
abbrev pub blocks_along : Shape → ℕ → ℕ → ℕ
blocks_along s axis level = root_along s axis * factor s.dims axis ^ level

-- 1 to 65,536 root blocks along an axis in use, one along an axis that is not
abbrev pub IsRootCount : ℕ → ℕ → ℕ → Type 0
IsRootCount dims axis roots = (1 ≤ roots) × (roots ≤ cond (nat_lt axis dims) 65536 1)

-- a lattice of one to three axes in use
pub record IsShape (s : Shape) : Type 0 where
  pub least : 1 ≤ s.dims
  pub most : s.dims ≤ 3
  pub roots1 : IsRootCount s.dims 0 (root_along s 0)
  pub roots2 : IsRootCount s.dims 1 (root_along s 1)
  pub roots3 : IsRootCount s.dims 2 (root_along s 2)

-- a location of one of the levels 0 to 10 that lies in the domain
pub record IsIn (s : Shape) (l : Loc) : Type 0 where
  pub level : l.level ≤ 10
  pub within1 : l.l1 < blocks_along s 0 l.level
  pub within2 : l.l2 < blocks_along s 1 l.level
  pub within3 : l.l3 < blocks_along s 2 l.level

-- whether a location lies in the domain
abbrev pub is_inside : Shape → Loc → Bool
is_inside s l = nat_le l.level 10 && nat_lt l.l1 (blocks_along s 0 l.level) && nat_lt l.l2 (blocks_along s 1 l.level) && nat_lt l.l3 (blocks_along s 2 l.level)

-- the greatest number of locations of a level along an axis, over all lattices
abbrev pub most_along : ℕ → ℕ → ℕ → ℕ
most_along dims axis level = cond (nat_lt axis dims) (65536 * 2 ^ level) 1

-- a location that lies in some lattice with that many axes in use
pub record IsLoc (dims : ℕ) (l : Loc) : Type 0 where
  pub level : l.level ≤ 10
  pub within1 : l.l1 < most_along dims 0 l.level
  pub within2 : l.l2 < most_along dims 1 l.level
  pub within3 : l.l3 < most_along dims 2 l.level

-- the location that a location is a part of
abbrev pub parent : ℕ → Loc → Loc
parent dims l = record {
  level = l.level - 1;
  l1 = l.l1 / factor dims 0;
  l2 = l.l2 / factor dims 1;
  l3 = l.l3 / factor dims 2;
}

-- which child of its parent a location is
abbrev pub child_number : ℕ → Loc → ℕ
child_number dims l = l.l1 % factor dims 0 + 2 * (l.l2 % factor dims 1) + 4 * (l.l3 % factor dims 2)

-- the child j of a location: bit by bit of j, the low or the high half along x1, x2 and x3
abbrev pub child : ℕ → Loc → ℕ → Loc
child dims l j = record {
  level = l.level + 1;
  l1 = factor dims 0 * l.l1 + j % factor dims 0;
  l2 = factor dims 1 * l.l2 + j / 2 % factor dims 1;
  l3 = factor dims 2 * l.l3 + j / 4 % factor dims 2;
}
