-- Where the leaves of a near tree come from.
use Rattle.std.proofs.Common.{◌≡◌, ℕ, zero, suc, ◌+◌, ◌-◌, ◌≤◌, Bool, true, false, refl, arith, ap, sym, ◌∙◌}
use Rattle.std.proofs.lemmas.Bool.{both_ways}
use Rattle.morton_order.specs.declared.space.Loc.{Loc}
use Rattle.morton_order.specs.declared.space.Shape.{Shape}
use Rattle.morton_order.specs.Space.{IsIn, child, parent}
use Rattle.morton_order.proofs.Family.{child_inside, parent-child}
use Rattle.block_tree.specs.Tree.{IsLeaf, IsTree, ancestor, is_node}
use Rattle.block_tree.specs.Next.{IsNear}
use Rattle.block_tree.proofs.Ancestors.{ancestor_inside, ancestor_level, ancestor_more, parent_node, root_node}

-- a leaf in a node
record LeafBelow (s : Shape) (inner : Loc → Bool) (c : Loc) : Type 0 where
  leaf : Loc
  levels : ℕ
  enough : levels ≤ leaf.level
  is : ancestor s.dims levels leaf ≡ c
  outer : IsLeaf s inner leaf

-- each node has a leaf in it, or is one
leaf_below : (s : Shape) (inner : Loc → Bool) → IsTree s inner → (k : ℕ) (c : Loc) → c.level + k ≡ 10 → IsIn s c → is_node s inner c ≡ true → LeafBelow s inner c
leaf_below s inner tree zero c deep inside node =
    record { leaf = c; levels = 0; enough = omega arith; is = refl; outer = record { inside = inside; node = node; outer = λ h. let l = tree.above_finest c h in absurd (omega arith) } }
leaf_below s inner tree (suc k) c deep inside node =
    by (inner c) refl (λ h. leaf_below s inner tree k (child s.dims c 0) (omega arith) (child_inside s c 0 inside (omega arith)) (parent_node s inner (child s.dims c 0) (ap inner (parent-child s.dims c 0) ∙ h)))
  where
    by : (b : Bool) → inner c ≡ b → (inner c ≡ true → LeafBelow s inner (child s.dims c 0)) → LeafBelow s inner c
    by false h below = record { leaf = c; levels = 0; enough = omega arith; is = refl; outer = record { inside = inside; node = node; outer = both_ways (inner c) h } }
    by true h below =
        let d = below h in
        let up : (ancestor s.dims d.levels d.leaf).level + d.levels ≡ d.leaf.level = ancestor_level s.dims d.levels d.leaf d.enough in
        let one : (ancestor s.dims d.levels d.leaf).level ≡ c.level + 1 = ap (λ (v : Loc). v.level) d.is in
        record {
          leaf = d.leaf;
          levels = suc d.levels;
          enough = omega arith;
          is = ancestor_more s.dims d.levels d.leaf ∙ ap (parent s.dims) d.is ∙ parent-child s.dims c 0;
          outer = d.outer;
        }

-- the children of an inner node that becomes a leaf were leaves
pub children_leaves : (s : Shape) (old next : Loc → Bool) → IsTree s old → IsNear s old next → (l : Loc) → IsLeaf s next l → old l ≡ true → (j : ℕ) → IsLeaf s old (child s.dims l j)
children_leaves s old next tree near l leaf inner j =
    let c : Loc = child s.dims l j in
    let inside : IsIn s c = child_inside s l j (tree.inside l inner) (tree.above_finest l inner) in
    let node : is_node s old c ≡ true = parent_node s old c (ap old (parent-child s.dims l j) ∙ inner) in
    record { inside = inside; node = node; outer = λ h. deeper c inside h (parent-child s.dims l j) refl }
  where
    deeper : (c : Loc) → IsIn s c → old c ≡ true → parent s.dims c ≡ l → c.level ≡ l.level + 1 → ⊥
    deeper c inside h up level =
        let d : Loc = child s.dims c 0 in
        let room = tree.above_finest c h in
        let b = leaf_below s old tree (10 - d.level) d (omega arith) (child_inside s c 0 inside room) (parent_node s old d (ap old (parent-child s.dims c 0) ∙ h)) in
        let total : (ancestor s.dims b.levels b.leaf).level + b.levels ≡ b.leaf.level = ancestor_level s.dims b.levels b.leaf b.enough in
        let at : (ancestor s.dims b.levels b.leaf).level ≡ c.level + 1 = ap (λ (v : Loc). v.level) b.is in
        let over : ancestor s.dims (suc (suc b.levels)) b.leaf ≡ l =
        ancestor_more s.dims (suc b.levels) b.leaf ∙ ap (parent s.dims) (ancestor_more s.dims b.levels b.leaf ∙ ap (parent s.dims) b.is ∙ parent-child s.dims c 0) ∙ up in
        let most = near.coarser b.leaf l b.outer leaf (record { levels = suc (suc b.levels); enough = omega arith; is = over }) in
        absurd (omega arith)

-- an old leaf that a location lies in
record LeafOver (s : Shape) (inner : Loc → Bool) (l : Loc) : Type 0 where
  up : ℕ
  enough : up ≤ l.level
  leaf : IsLeaf s inner (ancestor s.dims up l)

leaf_over : (s : Shape) (inner : Loc → Bool) (l : Loc) → IsIn s l → inner l ≡ false → (k : ℕ) → k ≤ l.level → is_node s inner (ancestor s.dims k l) ≡ true → LeafOver s inner l
leaf_over s inner l inside outer zero few node = record { up = 0; enough = few; leaf = record { inside = inside; node = node; outer = both_ways (inner l) outer } }
leaf_over s inner l inside outer (suc k) few node = by (inner (ancestor s.dims (suc k) l)) refl (λ above. leaf_over s inner l inside outer k (omega arith) above)
  where
    by : (b : Bool) → inner (ancestor s.dims (suc k) l) ≡ b → (is_node s inner (ancestor s.dims k l) ≡ true → LeafOver s inner l) → LeafOver s inner l
    by true e below = below (parent_node s inner (ancestor s.dims k l) (ap inner (sym (ancestor_more s.dims k l)) ∙ e))
    by false e below = record { up = suc k; enough = few; leaf = record { inside = ancestor_inside s (suc k) l inside few; node = node; outer = both_ways (inner (ancestor s.dims (suc k) l)) e } }

-- a leaf that was none, and whose parent was none, was an inner node
pub was_inner : (s : Shape) (old next : Loc → Bool) → IsNear s old next → (l : Loc) → IsLeaf s next l → (IsLeaf s old l → ⊥) → (1 ≤ l.level → IsLeaf s old (parent s.dims l) → ⊥) → old l ≡ true
was_inner s old next near l leaf new above = by (old l) refl
  where
    none : (up : ℕ) → up ≤ l.level → IsLeaf s old (ancestor s.dims up l) → ⊥
    none zero few over = new over
    none (suc zero) few over = above few over
    none (suc (suc up)) few over =
        let e = ancestor_level s.dims (suc (suc up)) l few in
        let most = near.finer (ancestor s.dims (suc (suc up)) l) l over leaf (record { levels = suc (suc up); enough = few; is = refl }) in
        omega arith

    by : (b : Bool) → old l ≡ b → old l ≡ true
    by true e = e
    by false e =
        let root = ancestor_level s.dims l.level l (omega arith) in
        let over = leaf_over s old l leaf.inside e l.level (omega arith) (root_node s old (ancestor s.dims l.level l) (omega arith)) in
        absurd (none over.up over.enough over.leaf)
