-- A least tree that follows a balanced one changes each leaf by at most one level.
use Rattle.std.proofs.Common.{◌≡◌, inl, inr, ℕ, zero, suc, ◌+◌, ◌<◌, ◌≤◌, Bool, true, ◌&&◌, nat_lt, arith, ap, sym, ◌∙◌}
use Rattle.std.proofs.lemmas.Bool.{and_parts, cases_eq, lt-ltb, ltb-true}
use Rattle.morton_order.specs.declared.space.Loc.{Loc}
use Rattle.morton_order.specs.declared.space.Shape.{Shape}
use Rattle.morton_order.specs.Space.{IsIn, IsShape, child, child_number, is_inside, parent}
use Rattle.morton_order.specs.Neighbours.{AreNeighbours}
use Rattle.morton_order.proofs.Crossing.{parents_touch}
use Rattle.morton_order.proofs.Family.{child-parent, child_number_below, inside-is, is-inside, parent_inside}
use Rattle.block_tree.specs.Tree.{IsBalanced, IsLeaf, IsTree, ancestor, is_node}
use Rattle.block_tree.specs.Least.{HoldsWanted, IsLeast}
use Rattle.block_tree.specs.Change.{ChangesByOneLevel, IsChange}
use Rattle.block_tree.proofs.Ancestors.{ancestor_level, ancestor_more, node_parent, parent_node, root_node}
use Rattle.block_tree.proofs.Behinds.{strict_inner}

-- the nodes of the old tree that have room for children
abbrev grown : Shape → (Loc → Bool) → Loc → Bool
grown s old l = is_inside s l && (nat_lt l.level 10 && is_node s old l)

record Grown (s : Shape) (old : Loc → Bool) (l : Loc) : Type 0 where
  inside : IsIn s l
  room : l.level < 10
  node : is_node s old l ≡ true

grown-is : (s : Shape) (old : Loc → Bool) (l : Loc) → grown s old l ≡ true → Grown s old l
grown-is s old l h =
    let a = and_parts (is_inside s l) (nat_lt l.level 10 && is_node s old l) h in
    let b = and_parts (nat_lt l.level 10) (is_node s old l) a.1 in
    record { inside = inside-is s l a.0; room = ltb-true l.level 10 b.0; node = b.1 }

and_both : (x y : Bool) → x ≡ true → y ≡ true → (x && y) ≡ true
and_both x y h k = ap (λ (b : Bool). b && y) h ∙ k

is-grown : (s : Shape) (old : Loc → Bool) (l : Loc) → Grown s old l → grown s old l ≡ true
is-grown s old l h = and_both (is_inside s l) (nat_lt l.level 10 && is_node s old l) (is-inside s l h.inside) (and_both (nat_lt l.level 10) (is_node s old l) (lt-ltb l.level 10 h.room) h.node)

-- an inner node is a node
inner_node : (s : Shape) (old : Loc → Bool) → IsTree s old → (l : Loc) → old l ≡ true → is_node s old l ≡ true
inner_node s old tree l h = elim (cases_eq l.level 0) [
  | inl root ↦ root_node s old l root
  | inr fine ↦ parent_node s old l (tree.closed l h (omega arith))
]

-- the parent of a node is one
node_above : (s : Shape) (old : Loc → Bool) → IsTree s old → (l : Loc) → 1 ≤ l.level → is_node s old l ≡ true → is_node s old (parent s.dims l) ≡ true
node_above s old tree l fine node = inner_node s old tree (parent s.dims l) (node_parent s old l fine node)

-- the old nodes are a balanced tree
grown_tree : (s : Shape) (old : Loc → Bool) → IsTree s old → IsTree s (grown s old)
grown_tree s old tree = record {
  inside = λ l h. (grown-is s old l h).inside;
  above_finest = λ l h. (grown-is s old l h).room;
  closed = λ l h fine. let g = grown-is s old l h in let room = g.room in
      is-grown s old (parent s.dims l) (record { inside = parent_inside s l g.inside fine; room = omega arith; node = node_above s old tree l fine g.node });
}

grown_beside : (s : Shape) (old : Loc → Bool) → IsTree s old → IsBalanced s old → (l m : Loc) → Grown s old l → IsIn s m → AreNeighbours s l m → 1 ≤ m.level → Grown s old (parent s.dims m)
grown_beside s old tree balanced l m g there near fine =
    let level = near.level in
    let room = g.room in
    record {
      inside = parent_inside s m there fine;
      room = omega arith;
      node = balanced (parent s.dims l) (parent s.dims m) (node_parent s old l (omega arith) g.node) (parent_inside s m there fine) (parents_touch s l m g.inside there (omega arith) near);
    }

grown_balanced : (s : Shape) (old : Loc → Bool) → IsTree s old → IsBalanced s old → IsBalanced s (grown s old)
grown_balanced s old tree balanced l m h there near = elim (cases_eq m.level 0) [
  | inl root ↦ root_node s (grown s old) m root
  | inr fine ↦ parent_node s (grown s old) m (is-grown s old (parent s.dims m) (grown_beside s old tree balanced l m (grown-is s old l h) there near (omega arith)))
]

-- the old nodes hold all that a change wants
grown_holds : (s : Shape) (old wanted next : Loc → Bool) → IsChange s old wanted → IsLeast s wanted next → HoldsWanted s wanted (grown s old)
grown_holds s old wanted next change least = record {
  tree = grown_tree s old change.tree;
  balanced = grown_balanced s old change.tree change.balanced;
  holds = λ l h. let n = least.one_of.holds l h in is-grown s old l (record { inside = least.one_of.tree.inside l n; room = least.one_of.tree.above_finest l n; node = held l h });
}
  where
    held : (l : Loc) → wanted l ≡ true → is_node s old l ≡ true
    held l h = elim (change.of_old l h) [ inl is ↦ inner_node s old change.tree l is | inr leaf ↦ leaf.node ]

-- a new leaf in an old one is it, or a child of it
finer : (s : Shape) (old wanted next : Loc → Bool) → IsChange s old wanted → IsLeast s wanted next → (before after : Loc) → IsLeaf s old before → IsLeaf s next after → (k : ℕ) → k ≤ after.level → ancestor s.dims k after ≡ before → after.level ≤ before.level + 1
finer s old wanted next change least before after leaf new zero enough is = let e = ap (λ (v : Loc). v.level) is in omega arith
finer s old wanted next change least before after leaf new (suc zero) enough is = let e = ap (λ (v : Loc). v.level) is in omega arith
finer s old wanted next change least before after leaf new (suc (suc k)) enough is =
    let p : Loc = parent s.dims after in
    let ip = node_parent s next after (omega arith) new.node in
    let g = grown-is s old p (least.within (grown s old) (grown_holds s old wanted next change least) p ip) in
    absurd (leaf.outer (ap old (sym is) ∙ strict_inner s old change.tree k p g.node (omega arith)))

-- an old leaf in a new one is it, or was a child of it
coarser : (s : Shape) (old wanted next : Loc → Bool) → IsShape s → IsChange s old wanted → IsLeast s wanted next → (before after : Loc) → IsLeaf s old before → IsLeaf s next after → (k : ℕ) → k ≤ before.level → ancestor s.dims k before ≡ after → before.level ≤ after.level + 1
coarser s old wanted next shape change least before after leaf new zero enough is = let e = ap (λ (v : Loc). v.level) is in omega arith
coarser s old wanted next shape change least before after leaf new (suc zero) enough is = let e = ap (λ (v : Loc). v.level) is in omega arith
coarser s old wanted next shape change least before after leaf new (suc (suc k)) enough is =
    let q : Loc = ancestor s.dims (suc k) before in
    let q_level = ancestor_level s.dims (suc k) before (omega arith) in
    let q_inner : old q ≡ true = strict_inner s old change.tree k before leaf.node (omega arith) in
    let top : parent s.dims q ≡ after = sym (ancestor_more s.dims (suc k) before) ∙ is in
    let old_after : old after ≡ true = ap old (sym top) ∙ change.tree.closed q q_inner (omega arith) in
    let unwanted : wanted after ≡ true → ⊥ = λ w. new.outer (least.one_of.holds after w) in
    let child_leaf = change.merged after old_after unwanted (child_number s.dims q) (child_number_below s.dims q shape.least shape.most) in
    let q_is : child s.dims after (child_number s.dims q) ≡ q = ap (λ (v : Loc). child s.dims v (child_number s.dims q)) (sym top) ∙ child-parent s.dims q (omega arith) in
    absurd (child_leaf.outer (ap old q_is ∙ q_inner))

pub changes_by_one_level : ChangesByOneLevel
changes_by_one_level s old wanted next shape change least before after leaf new = (
  λ lies. finer s old wanted next change least before after leaf new lies.levels lies.enough lies.is,
  λ lies. coarser s old wanted next shape change least before after leaf new lies.levels lies.enough lies.is,
)
