-- Bounds of the coordinates of a location.
use Rattle.std.proofs.Common.{◌≡◌, ℕ, ◌*◌, ◌^◌, ◌<◌, ◌≤◌, Bool, true, false, cond, nat_lt, arith, subst}
use Rattle.std.proofs.Math.Nat.{mul-le-mul_right, one-le-pow}
use Rattle.std.proofs.Common.{lit<}
use Rattle.morton_order.specs.declared.space.Loc.{Loc}
use Rattle.morton_order.specs.declared.space.Shape.{Shape}
use Rattle.morton_order.specs.Space.{IsIn, IsLoc, IsShape, root_along}
use Rattle.morton_order.proofs.Lattice.{one_pow}

within_by : (used : Bool) (root level x : ℕ) → root ≤ cond used 65536 1 → x < root * cond used 2 1 ^ level → x < cond used (65536 * 2 ^ level) 1
within_by true root level x few h = let m : root * 2 ^ level ≤ 65536 * 2 ^ level = mul-le-mul_right (2 ^ level) few in omega arith
within_by false root level x few h = let e : 1 ^ level ≡ 1 = one_pow level in let f : x < root * 1 = subst (λ v. x < root * v) e h in omega arith

-- a location of the domain is one of some lattice with as many axes in use
pub loc_in : (s : Shape) (l : Loc) → IsShape s → IsIn s l → IsLoc s.dims l
loc_in s l shape h = record {
  level = h.level;
  within1 = within_by (nat_lt 0 s.dims) (root_along s 0) l.level l.l1 shape.roots1.1 h.within1;
  within2 = within_by (nat_lt 1 s.dims) (root_along s 1) l.level l.l2 shape.roots2.1 h.within2;
  within3 = within_by (nat_lt 2 s.dims) (root_along s 2) l.level l.l3 shape.roots3.1 h.within3;
}

wider : (used : Bool) (level x : ℕ) → x < cond used (65536 * 2 ^ level) 1 → x < 65536 * 2 ^ level
wider true level x h = h
wider false level x h = let some : 1 ≤ 2 ^ level = one-le-pow level 2 (lit< tt) in omega arith

pub loc_of : (s : Shape) (l : Loc) → IsShape s → IsIn s l → IsLoc 3 l
loc_of s l shape h = let p = loc_in s l shape h in record {
  level = p.level;
  within1 = wider (nat_lt 0 s.dims) l.level l.l1 p.within1;
  within2 = wider (nat_lt 1 s.dims) l.level l.l2 p.within2;
  within3 = wider (nat_lt 2 s.dims) l.level l.l3 p.within3;
}
