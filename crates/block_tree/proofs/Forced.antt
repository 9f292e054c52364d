-- The nodes that wanted nodes force are the least balanced tree.
use Rattle.std.proofs.Common.{◌≡◌, ◌⊎◌, inl, inr, ℕ, zero, suc, ◌+◌, ◌-◌, ◌<◌, ◌≤◌, Bool, true, ◌&&◌, ◌||◌, nat_le, nat_eq, arith, ap, subst, sym, ◌∙◌}
use Rattle.std.specs.List.{list_any, range_with_len}
use Rattle.std.proofs.lemmas.Bool.{and_parts, cases_eq, eq-eqb, ne_eqb, leb-true, le-leb}
use Rattle.morton_order.specs.declared.space.Loc.{Loc}
use Rattle.morton_order.specs.declared.space.Shape.{Shape}
use Rattle.morton_order.specs.Space.{IsIn, IsShape, child, child_number, is_inside, parent, parts}
use Rattle.morton_order.specs.Neighbours.{AreNeighbours, neighbours}
use Rattle.morton_order.proofs.Any.{any_range-found, any_range-has, or_cases, or_left, or_right}
use Rattle.morton_order.proofs.Family.{child-parent, child_inside, child_number_below, inside-is, is-inside, parent-child, parent_inside}
use Rattle.morton_order.proofs.Touching.{neighbours-found, neighbours-has, touching_back, touching_self}
use Rattle.block_tree.specs.Tree.{IsBalanced, IsTree, is_node}
use Rattle.block_tree.specs.Least.{HoldsWanted, LeastIsLeast, around, forced, least}

-- some forced location of the next level is a child, or touches one
record Above (k : ℕ) (s : Shape) (wanted : Loc → Bool) (l : Loc) : Type 0 where
  j : ℕ
  number : j < parts s.dims
  m : Loc
  inside : IsIn s m
  touching : AreNeighbours s (child s.dims l j) m
  is_forced : forced k s wanted m ≡ true

-- what passes a test around a location touches it
pub around-found : (s : Shape) (l : Loc) (p : Loc → Bool) → IsIn s l → list_any p (around s l) ≡ true → (m : Loc) × IsIn s m × AreNeighbours s l m × (p m ≡ true)
around-found s l p inside h = elim (or_cases (p l) (list_any p (neighbours s l)) h) [
  | inl here ↦ (l, inside, touching_self s l, here)
  | inr there ↦ let (m, touches, pass) = neighbours-found s l p inside there in (m, touches.inside, touches.touching, pass)
]

pub around-has : (s : Shape) (l m : Loc) (p : Loc → Bool) → IsShape s → IsIn s l → IsIn s m → AreNeighbours s l m → p m ≡ true → list_any p (around s l) ≡ true
around-has s l m p shape inside there near pass = elim (neighbours-has s l m p shape inside there near pass) [
  | inl here ↦ or_left (p l) (list_any p (neighbours s l)) here
  | inr among ↦ or_right (p l) (list_any p (neighbours s l)) among
]

-- a forced location is wanted, or some location above it is forced
forced-down : (k : ℕ) (s : Shape) (wanted : Loc → Bool) (l : Loc) → IsIn s l → l.level < 10 → forced (suc k) s wanted l ≡ true → (wanted l ≡ true) ⊎ Above k s wanted l
unfolding forced
forced-down k s wanted l inside coarse h = elim (or_cases (wanted l) (list_any (λ j. list_any (forced k s wanted) (around s (child s.dims l j))) (range_with_len 0 (parts s.dims))) h) [
  | inl here ↦ inl here
  | inr later ↦
      let (j, low, high, at) = any_range-found (λ j. list_any (forced k s wanted) (around s (child s.dims l j))) 0 (parts s.dims) later in
      let (m, there, near, pass) = around-found s (child s.dims l j) (forced k s wanted) (child_inside s l j inside coarse) at in
      inr (record { j = j; number = omega arith; m = m; inside = there; touching = near; is_forced = pass })
]

-- a wanted location is forced
forced-wanted : (k : ℕ) (s : Shape) (wanted : Loc → Bool) (l : Loc) → wanted l ≡ true → forced k s wanted l ≡ true
unfolding forced
forced-wanted zero s wanted l h = h
forced-wanted (suc k) s wanted l h = or_left (wanted l) (list_any (λ j. list_any (forced k s wanted) (around s (child s.dims l j))) (range_with_len 0 (parts s.dims))) h

-- what a forced location touches has a forced parent
forced-up : (k : ℕ) (s : Shape) (wanted : Loc → Bool) (l m : Loc) (j : ℕ) → IsShape s → IsIn s l → l.level < 10 → j < parts s.dims → IsIn s m → AreNeighbours s (child s.dims l j) m → forced k s wanted m ≡ true → forced (suc k) s wanted l ≡ true
unfolding forced
forced-up k s wanted l m j shape inside coarse number there near h =
    let at = around-has s (child s.dims l j) m (forced k s wanted) shape (child_inside s l j inside coarse) there near h in
    or_right (wanted l) (list_any (λ i. list_any (forced k s wanted) (around s (child s.dims l i))) (range_with_len 0 (parts s.dims)))
    (any_range-has (λ i. list_any (forced k s wanted) (around s (child s.dims l i))) 0 (parts s.dims) j (omega arith) (omega arith) at)

-- the parent of what a forced location touches is forced
forced-parent : (k : ℕ) (s : Shape) (wanted : Loc → Bool) (l m : Loc) → IsShape s → IsIn s l → IsIn s m → AreNeighbours s l m → 1 ≤ m.level → forced k s wanted l ≡ true → forced (suc k) s wanted (parent s.dims m) ≡ true
forced-parent k s wanted l m shape inside there near fine h =
    let e = child-parent s.dims m fine in
    let level = there.level in
    forced-up k s wanted (parent s.dims m) l (child_number s.dims m) shape (parent_inside s m there fine) (omega arith) (child_number_below s.dims m shape.least shape.most) inside
    (subst (λ (v : Loc). AreNeighbours s v l) (sym e) (touching_back s l m near)) h

-- every balanced tree that holds what is wanted has all forced locations
forced-within : (k : ℕ) (s : Shape) (wanted other : Loc → Bool) → IsShape s → HoldsWanted s wanted other → (l : Loc) → IsIn s l → l.level + k < 10 → forced k s wanted l ≡ true → other l ≡ true
unfolding forced
forced-within zero s wanted other shape tree l inside coarse h = tree.holds l h
forced-within (suc k) s wanted other shape tree l inside coarse h = elim (forced-down k s wanted l inside (omega arith) h) [
  | inl here ↦ tree.holds l here
  | inr above ↦
      let same = above.touching.level in
      let level : above.m.level + k < 10 = omega arith in
      let inner = forced-within k s wanted other shape tree above.m above.inside level above.is_forced in
      let node : is_node s other (child s.dims l above.j) ≡ true = tree.balanced above.m (child s.dims l above.j) inner (child_inside s l above.j inside (omega arith)) (touching_back s (child s.dims l above.j) above.m above.touching) in
      let parent_inner = node-parent s other (child s.dims l above.j) (omega arith) node in
      subst (λ (v : Loc). other v ≡ true) (parent-child s.dims l above.j) parent_inner
]
  where
    node-parent : (s : Shape) (inner : Loc → Bool) (l : Loc) → 1 ≤ l.level → is_node s inner l ≡ true → inner (parent s.dims l) ≡ true
    node-parent s inner l fine h = subst (λ (b : Bool). (b || inner (parent s.dims l)) ≡ true) (ne_eqb l.level 0 (λ e. omega arith)) h

-- a location of the least tree lies in the domain, is no finer than the finest, and is forced
record InLeast (finest : ℕ) (s : Shape) (wanted : Loc → Bool) (l : Loc) : Type 0 where
  inside : IsIn s l
  coarse : l.level ≤ finest
  is_forced : forced (finest - l.level) s wanted l ≡ true

least-is : (finest : ℕ) (s : Shape) (wanted : Loc → Bool) (l : Loc) → least finest s wanted l ≡ true → InLeast finest s wanted l
least-is finest s wanted l h =
    let a = and_parts (is_inside s l) (nat_le l.level finest && forced (finest - l.level) s wanted l) h in
    let b = and_parts (nat_le l.level finest) (forced (finest - l.level) s wanted l) a.1 in
    record { inside = inside-is s l a.0; coarse = leb-true l.level finest b.0; is_forced = b.1 }

and_both : (x y : Bool) → x ≡ true → y ≡ true → (x && y) ≡ true
and_both x y h k = ap (λ (b : Bool). b && y) h ∙ k

is-least : (finest : ℕ) (s : Shape) (wanted : Loc → Bool) (l : Loc) → InLeast finest s wanted l → least finest s wanted l ≡ true
is-least finest s wanted l h = and_both (is_inside s l) (nat_le l.level finest && forced (finest - l.level) s wanted l) (is-inside s l h.inside)
    (and_both (nat_le l.level finest) (forced (finest - l.level) s wanted l) (le-leb l.level finest h.coarse) h.is_forced)

-- what an inner node of the least tree touches has an inner parent
least-parent : (finest : ℕ) (s : Shape) (wanted : Loc → Bool) → IsShape s → (l m : Loc) → InLeast finest s wanted l → IsIn s m → AreNeighbours s l m → 1 ≤ m.level → InLeast finest s wanted (parent s.dims m)
least-parent finest s wanted shape l m h there near fine =
    let same = near.level in
    let coarse = h.coarse in
    let k : finest - (m.level - 1) ≡ suc (finest - l.level) = omega arith in
    record {
      inside = parent_inside s m there fine;
      coarse = omega arith;
      is_forced = subst (λ v. forced v s wanted (parent s.dims m) ≡ true) (sym k) (forced-parent (finest - l.level) s wanted l m shape h.inside there near fine h.is_forced);
    }

least_balanced : (finest : ℕ) (s : Shape) (wanted : Loc → Bool) → IsShape s → IsBalanced s (least finest s wanted)
least_balanced finest s wanted shape l m h there near = elim (cases_eq m.level 0) [
  | inl root ↦ or_left (nat_eq m.level 0) (least finest s wanted (parent s.dims m)) (eq-eqb m.level 0 root)
  | inr fine ↦ or_right (nat_eq m.level 0) (least finest s wanted (parent s.dims m)) (is-least finest s wanted (parent s.dims m) (least-parent finest s wanted shape l m (least-is finest s wanted l h) there near (omega arith)))
]

least_tree : (finest : ℕ) (s : Shape) (wanted : Loc → Bool) → IsShape s → finest < 10 → IsTree s (least finest s wanted)
least_tree finest s wanted shape few = record {
  inside = λ l h. (least-is finest s wanted l h).inside;
  above_finest = λ l h. let c = (least-is finest s wanted l h).coarse in omega arith;
  closed = λ l h fine. let i = least-is finest s wanted l h in is-least finest s wanted (parent s.dims l) (least-parent finest s wanted shape l l i i.inside (touching_self s l) fine);
}

pub least_is_least : LeastIsLeast
least_is_least finest s wanted shape few may = record {
  one_of = record {
    tree = least_tree finest s wanted shape few;
    balanced = least_balanced finest s wanted shape;
    holds = λ l h. let a = may l h in is-least finest s wanted l (record { inside = a.0; coarse = a.1; is_forced = forced-wanted (finest - l.level) s wanted l h });
  };
  within = λ other tree l h. let i = least-is finest s wanted l h in let c = i.coarse in forced-within (finest - l.level) s wanted other shape tree l i.inside (omega arith) i.is_forced;
}
