-- Parents and children.
use Rattle.std.proofs.Common.{◌≡◌, ℕ, zero, suc, ◌+◌, ◌-◌, ◌*◌, ◌/◌, ◌%◌, ◌^◌, ◌<◌, ◌≤◌, Bool, true, false, cond, nat_lt, refl, arith, subst, sym}
use Rattle.std.proofs.Math.Nat.{pow-suc}
use Rattle.std.proofs.lemmas.Bool.Decides.{nat_tests}
use Rattle.morton_order.specs.declared.space.Loc.{Loc}
use Rattle.morton_order.specs.declared.space.Shape.{Shape}
use Rattle.morton_order.specs.Space.{IsIn, blocks_along, child, child_number, is_inside, parent, parts, root_along}
use Rattle.morton_order.proofs.Lattice.{one_pow}
use Rattle.morton_order.proofs.Touching.{same_as}

-- 2 where an axis is in use
abbrev cut : Bool → ℕ
cut used = cond used 2 1

-- the halves of three coordinates, put together again
halves : (a b c : Bool) (x y z n : ℕ) → n ≡ x % cut a + 2 * (y % cut b) + 4 * (z % cut c) → (cut a * (x / cut a) + n % cut a ≡ x) × (cut b * (y / cut b) + n / 2 % cut b ≡ y) × (cut c * (z / cut c) + n / 4 % cut c ≡ z)
halves true true true x y z n e = (omega arith, omega arith, omega arith)
halves true true false x y z n e = (omega arith, omega arith, omega arith)
halves true false true x y z n e = (omega arith, omega arith, omega arith)
halves true false false x y z n e = (omega arith, omega arith, omega arith)
halves false true true x y z n e = (omega arith, omega arith, omega arith)
halves false true false x y z n e = (omega arith, omega arith, omega arith)
halves false false true x y z n e = (omega arith, omega arith, omega arith)
halves false false false x y z n e = (omega arith, omega arith, omega arith)

-- a location is the child of its parent that it is
pub child-parent : (dims : ℕ) (l : Loc) → 1 ≤ l.level → child dims (parent dims l) (child_number dims l) ≡ l
child-parent dims l h =
    let e = halves (nat_lt 0 dims) (nat_lt 1 dims) (nat_lt 2 dims) l.l1 l.l2 l.l3 (child_number dims l) refl in
    same_as l (child dims (parent dims l) (child_number dims l)) (omega arith) e.0 e.1 e.2

-- what is left of a coordinate with a half below it
back : (a : Bool) (x b : ℕ) → (cut a * x + b % cut a) / cut a ≡ x
back true x b = omega arith
back false x b = omega arith

-- the parent of a child
pub parent-child : (dims : ℕ) (l : Loc) (j : ℕ) → parent dims (child dims l j) ≡ l
parent-child dims l j = same_as l (parent dims (child dims l j)) (omega arith) (back (nat_lt 0 dims) l.l1 j) (back (nat_lt 1 dims) l.l2 (j / 2)) (back (nat_lt 2 dims) l.l3 (j / 4))

-- a half lies below its whole's end
half_within : (a : Bool) (root level x b : ℕ) → x < root * cut a ^ level → cut a * x + b % cut a < root * cut a ^ (level + 1)
half_within true root level x b h =
    let e : 2 ^ suc level ≡ 2 ^ level * 2 = pow-suc 2 level in
    subst (λ v. 2 * x + b % 2 < root * 2 ^ v) (omega arith) (subst (λ v. 2 * x + b % 2 < root * v) (sym e) (doubled root (2 ^ level) x (b % 2) h (omega arith)))
  where
    doubled : (root p x c : ℕ) → x < root * p → c < 2 → 2 * x + c < root * (p * 2)
    doubled root p x c h k = omega arith
half_within false root level x b h =
    let e : 1 ^ level ≡ 1 = one_pow level in
    let f : 1 ^ (level + 1) ≡ 1 = one_pow (level + 1) in
    subst (λ v. 1 * x + b % 1 < root * v) (sym f) (single root x b (subst (λ v. x < root * v) e h))
  where
    single : (root x b : ℕ) → x < root * 1 → 1 * x + b % 1 < root * 1
    single root x b h = omega arith

-- a child lies in the domain
pub child_inside : (s : Shape) (l : Loc) (j : ℕ) → IsIn s l → l.level < 10 → IsIn s (child s.dims l j)
child_inside s l j h coarse = record {
  level = omega arith;
  within1 = half_within (nat_lt 0 s.dims) (root_along s 0) l.level l.l1 j h.within1;
  within2 = half_within (nat_lt 1 s.dims) (root_along s 1) l.level l.l2 (j / 2) h.within2;
  within3 = half_within (nat_lt 2 s.dims) (root_along s 2) l.level l.l3 (j / 4) h.within3;
}

-- a whole lies below the end that a half lies below
whole_within : (a : Bool) (root level x : ℕ) → x < root * cut a ^ (level + 1) → x / cut a < root * cut a ^ level
whole_within true root level x h =
    let e : 2 ^ suc level ≡ 2 ^ level * 2 = pow-suc 2 level in
    let f : level + 1 ≡ suc level = omega arith in
    halved root (2 ^ level) x (subst (λ v. x < root * v) e (subst (λ v. x < root * 2 ^ v) f h))
  where
    halved : (root p x : ℕ) → x < root * (p * 2) → x / 2 < root * p
    halved root p x h = omega arith
whole_within false root level x h =
    let e : 1 ^ level ≡ 1 = one_pow level in
    let f : 1 ^ (level + 1) ≡ 1 = one_pow (level + 1) in
    subst (λ v. x / 1 < root * v) (sym e) (single root x (subst (λ v. x < root * v) f h))
  where
    single : (root x : ℕ) → x < root * 1 → x / 1 < root * 1
    single root x h = omega arith

-- a parent lies in the domain
pub parent_inside : (s : Shape) (l : Loc) → IsIn s l → 1 ≤ l.level → IsIn s (parent s.dims l)
parent_inside s l h fine =
    let e : l.level ≡ l.level - 1 + 1 = omega arith in
    record {
      level = omega arith;
      within1 = whole_within (nat_lt 0 s.dims) (root_along s 0) (l.level - 1) l.l1 (subst (λ v. l.l1 < blocks_along s 0 v) e h.within1);
      within2 = whole_within (nat_lt 1 s.dims) (root_along s 1) (l.level - 1) l.l2 (subst (λ v. l.l2 < blocks_along s 1 v) e h.within2);
      within3 = whole_within (nat_lt 2 s.dims) (root_along s 2) (l.level - 1) l.l3 (subst (λ v. l.l3 < blocks_along s 2 v) e h.within3);
    }

-- which child a location is, is the number of one
pub child_number_below : (dims : ℕ) (l : Loc) → 1 ≤ dims → dims ≤ 3 → child_number dims l < parts dims
child_number_below zero l h k = absurd (omega arith)
child_number_below (suc zero) l h k = omega arith
child_number_below (suc (suc zero)) l h k = omega arith
child_number_below (suc (suc (suc zero))) l h k = omega arith
child_number_below (suc (suc (suc (suc d)))) l h k = absurd (omega arith)

-- the test of the domain
pub inside-is : (s : Shape) (l : Loc) → is_inside s l ≡ true → IsIn s l
inside-is s l h = record { level = grind (arith, nat_tests); within1 = grind (arith, nat_tests); within2 = grind (arith, nat_tests); within3 = grind (arith, nat_tests) }

pub is-inside : (s : Shape) (l : Loc) → IsIn s l → is_inside s l ≡ true
is-inside s l h = let a = h.level in let b = h.within1 in let c = h.within2 in let d = h.within3 in grind (arith, nat_tests)
