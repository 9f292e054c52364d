-- Facts on one axis of a lattice.
use Rattle.std.proofs.Common.{◌≡◌, ℕ, zero, suc, ◌+◌, ◌*◌, ◌/◌, ◌^◌, ◌<◌, ◌≤◌, Bool, true, false, cond, refl, arith, ap, subst, sym, ◌∙◌, add-one, lit<, lit≤, nat_lt}
use Rattle.morton_order.specs.declared.space.Shape.{Shape}
use Rattle.morton_order.specs.Space.{IsShape, IsRootCount, blocks_along, root_along}
use Rattle.std.proofs.lemmas.Nat.{mul-le}
use Rattle.std.proofs.Math.Nat.{pow-suc, pow-le-pow_right, mul-le-mul_left}

-- one to any power
pub one_pow : (k : ℕ) → 1 ^ k ≡ 1
one_pow zero = refl
one_pow (suc k) = let e : 1 ^ suc k ≡ 1 ^ k * 1 = pow-suc 1 k in let h : 1 ^ k ≡ 1 = one_pow k in omega arith

-- below one there is only zero
pub zero_below : (root level x : ℕ) → root ≤ 1 → x < root * 1 ^ level → x ≡ zero
zero_below root level x few h =
    let below : x < root * 1 = subst (λ v. x < root * v) (one_pow level) h in omega arith

-- half of a coordinate, also along an axis that is not in use
pub halved : (used : Bool) (root level x : ℕ) → root ≤ cond used 65536 1 → x < root * cond used 2 1 ^ level → x / 2 ≡ x / cond used 2 1
halved true root level x few h = refl
halved false root level x few h = ap (λ v. v / 2) (zero_below root level x few h) ∙ sym (ap (λ v. v / 1) (zero_below root level x few h))

-- a child lies on its level's lattice
pub child_within : (used : Bool) (level x b : ℕ) → x < cond used (65536 * 2 ^ level) 1 → b < cond used 2 1 → cond used 2 1 * x + b < cond used (65536 * 2 ^ (level + 1)) 1
child_within true level x b h p =
    let e : 2 ^ suc level ≡ 2 ^ level * 2 = pow-suc 2 level in
    subst (λ v. 2 * x + b < 65536 * 2 ^ v) (sym (add-one level)) (omega arith)
child_within false level x b h p = omega arith

-- no lattice has more than 2 ^ 26 places along an axis
pub most_places : (used : Bool) (level : ℕ) → level ≤ 10 → cond used (65536 * 2 ^ level) 1 ≤ 65536 * 2 ^ 10
most_places true level h = mul-le-mul_left 65536 (pow-le-pow_right {n = 2} (lit< tt) h)
most_places false level h = lit≤ tt

-- the number of root blocks along any axis
pub root_count : (s : Shape) → IsShape s → (axis : ℕ) → axis < 3 → IsRootCount s.dims axis (root_along s axis)
root_count s shape zero h = shape.roots1
root_count s shape (suc zero) h = shape.roots2
root_count s shape (suc (suc zero)) h = shape.roots3
root_count s shape (suc (suc (suc a))) h = absurd (omega arith)

-- a refinement factor to the power of a level
pub factor_power : (used : Bool) (level : ℕ) → level ≤ 10 → cond used 2 1 ^ level ≤ 2 ^ 10
factor_power true level h = pow-le-pow_right {n = 2} (lit< tt) h
factor_power false level h = subst (λ v. v ≤ 2 ^ 10) (sym (one_pow level)) (lit≤ tt)

-- no axis of a lattice has more than 2 ^ 26 places
pub few_places : (used : Bool) (root level : ℕ) → level ≤ 10 → root ≤ cond used 65536 1 → root * cond used 2 1 ^ level ≤ 65536 * 2 ^ 10
few_places true root level h few = mul-le root (2 ^ level) 65536 (2 ^ 10) few (factor_power true level h)
few_places false root level h few = let e : 1 ^ level ≡ 1 = one_pow level in let small : root * 1 ^ level ≤ 1 * 1 = mul-le root (1 ^ level) 1 1 few (subst (λ v. v ≤ 1) (sym e) (lit≤ tt)) in omega arith

-- along an axis that is not in use there is one place
few_by : (used : Bool) (root level : ℕ) → root ≤ cond used 65536 1 → root * cond used 2 1 ^ level ≤ cond used (root * cond used 2 1 ^ level) 1
few_by true root level h = omega arith
few_by false root level h = let e : 1 ^ level ≡ 1 = one_pow level in subst (λ v. root * v ≤ 1) (sym e) (omega arith)

pub few_along : (s : Shape) → IsShape s → (axis level : ℕ) → axis < 3 → blocks_along s axis level ≤ cond (nat_lt axis s.dims) (blocks_along s axis level) 1
few_along s shape axis level h = few_by (nat_lt axis s.dims) (root_along s axis) level (root_count s shape axis h).1
