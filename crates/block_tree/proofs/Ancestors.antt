-- The ancestors of a location, and which half of its parent a child is.
use Rattle.std.proofs.Common.{◌≡◌, ◌⊎◌, inl, inr, ℕ, zero, suc, ◌+◌, ◌%◌, ◌<◌, ◌≤◌, Bool, true, false, cond, not, nat_eq, ◌||◌, refl, arith, ap, subst, sym, ◌∙◌}
use Rattle.std.proofs.lemmas.Bool.{cases_eq, eq-eqb, eqb-true, ne_eqb}
use Rattle.std.proofs.lemmas.Bool.Decides.{nat_tests}
use Rattle.morton_order.specs.declared.space.Loc.{Loc}
use Rattle.morton_order.specs.declared.space.Shape.{Shape}
use Rattle.morton_order.specs.Space.{IsIn, axis_of, child_number, parent}
use Rattle.morton_order.proofs.Any.{or_left, or_right}
use Rattle.morton_order.proofs.Family.{parent_inside}
use Rattle.block_tree.specs.Tree.{IsTree, ancestor, is_node}
use Rattle.block_tree.specs.Behind.{is_high_half}

-- the level of an ancestor
pub ancestor_level : (dims k : ℕ) (c : Loc) → k ≤ c.level → (ancestor dims k c).level + k ≡ c.level
ancestor_level dims zero c h = omega arith
ancestor_level dims (suc k) c h = let e = ancestor_level dims k (parent dims c) (omega arith) in omega arith

-- one level more at the top
pub ancestor_more : (dims k : ℕ) (c : Loc) → ancestor dims (suc k) c ≡ parent dims (ancestor dims k c)
ancestor_more dims zero c = refl
ancestor_more dims (suc k) c = ancestor_more dims k (parent dims c)

pub ancestor_add : (dims j k : ℕ) (c : Loc) → ancestor dims (j + k) c ≡ ancestor dims k (ancestor dims j c)
ancestor_add dims zero k c = let e : 0 + k ≡ k = omega arith in ap (λ v. ancestor dims v c) e
ancestor_add dims (suc j) k c = let e : suc j + k ≡ suc (j + k) = omega arith in ap (λ v. ancestor dims v c) e ∙ ancestor_add dims j k (parent dims c)

pub ancestor_inside : (s : Shape) (k : ℕ) (c : Loc) → IsIn s c → k ≤ c.level → IsIn s (ancestor s.dims k c)
ancestor_inside s zero c inside h = inside
ancestor_inside s (suc k) c inside h = ancestor_inside s k (parent s.dims c) (parent_inside s c inside (omega arith)) (omega arith)

-- the ancestors of an inner node are inner
pub ancestor_inner : (s : Shape) (inner : Loc → Bool) → IsTree s inner → (k : ℕ) (c : Loc) → inner c ≡ true → k ≤ c.level → inner (ancestor s.dims k c) ≡ true
ancestor_inner s inner tree zero c h few = h
ancestor_inner s inner tree (suc k) c h few = ancestor_inner s inner tree k (parent s.dims c) (tree.closed c h (omega arith)) (omega arith)

-- the parent of a node that is no root is inner
pub node_parent : (s : Shape) (inner : Loc → Bool) (l : Loc) → 1 ≤ l.level → is_node s inner l ≡ true → inner (parent s.dims l) ≡ true
node_parent s inner l h node = subst (λ (b : Bool). (b || inner (parent s.dims l)) ≡ true) (ne_eqb l.level 0 (λ e. omega arith)) node

pub parent_node : (s : Shape) (inner : Loc → Bool) (l : Loc) → inner (parent s.dims l) ≡ true → is_node s inner l ≡ true
parent_node s inner l h = or_right (nat_eq l.level 0) (inner (parent s.dims l)) h

pub root_node : (s : Shape) (inner : Loc → Bool) (l : Loc) → l.level ≡ 0 → is_node s inner l ≡ true
root_node s inner l h = or_left (nat_eq l.level 0) (inner (parent s.dims l)) (eq-eqb l.level 0 h)

-- a location that is no node has a parent that is not inner, and is no root
pub not_node : (s : Shape) (inner : Loc → Bool) (l : Loc) → is_node s inner l ≡ false → (1 ≤ l.level) × (inner (parent s.dims l) ≡ true → ⊥)
not_node s inner l h = (at_least, λ p. clash (sym (parent_node s inner l p) ∙ h))
  where
    clash : true ≡ false → ⊥
    clash e = cc

    at_least : 1 ≤ l.level
    at_least = elim (cases_eq l.level 0) [ inl e ↦ absurd (clash (sym (root_node s inner l e) ∙ h)) | inr d ↦ omega arith ]

-- which half a child is, by its coordinate
pub half-is : (dims : ℕ) (c : Loc) (axis : ℕ) → 1 ≤ dims → dims ≤ 3 → axis < dims → is_high_half (child_number dims c) axis ≡ nat_eq (axis_of c axis % 2) 1
half-is zero c axis h k used = absurd (omega arith)
half-is (suc zero) c zero h k used = ap (λ v. nat_eq v 1) (omega arith)
half-is (suc zero) c (suc a) h k used = absurd (omega arith)
half-is (suc (suc zero)) c zero h k used = ap (λ v. nat_eq v 1) (omega arith)
half-is (suc (suc zero)) c (suc zero) h k used = ap (λ v. nat_eq v 1) (omega arith)
half-is (suc (suc zero)) c (suc (suc a)) h k used = absurd (omega arith)
half-is (suc (suc (suc zero))) c zero h k used = ap (λ v. nat_eq v 1) (omega arith)
half-is (suc (suc (suc zero))) c (suc zero) h k used = ap (λ v. nat_eq v 1) (omega arith)
half-is (suc (suc (suc zero))) c (suc (suc zero)) h k used = ap (λ v. nat_eq v 1) (omega arith)
half-is (suc (suc (suc zero))) c (suc (suc (suc a))) h k used = absurd (omega arith)
half-is (suc (suc (suc (suc d)))) c axis h k used = absurd (omega arith)

-- the halves of a pair
pub parity : (x : ℕ) (high : Bool) → nat_eq (x % 2) 1 ≡ high → x % 2 ≡ cond high 1 0
parity x true h = eqb-true (x % 2) 1 h
parity x false h = let low : x % 2 < 2 = omega arith in grind (arith, nat_tests)

pub parity_other : (x : ℕ) (high : Bool) → nat_eq (x % 2) 1 ≡ not high → x % 2 ≡ cond high 0 1
parity_other x true h = let low : x % 2 < 2 = omega arith in grind (arith, nat_tests)
parity_other x false h = eqb-true (x % 2) 1 h

pub is_parity : (x : ℕ) (high : Bool) → x % 2 ≡ cond high 0 1 → nat_eq (x % 2) 1 ≡ not high
is_parity x true h = ap (λ v. nat_eq v 1) h
is_parity x false h = ap (λ v. nat_eq v 1) h

pub either_half : (b high : Bool) → (b ≡ high) ⊎ (b ≡ not high)
either_half true true = inl refl
either_half true false = inr refl
either_half false true = inr refl
either_half false false = inl refl
