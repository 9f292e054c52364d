-- What is named behind a side of a leaf is exactly the leaves that touch it.
use Rattle.std.proofs.Common.{◌≡◌, inl, inr, ℕ, zero, suc, ◌+◌, ◌-◌, ◌%◌, ◌<◌, ◌≤◌, Bool, true, false, cond, not, nat_eq, Option, Some, None, Contains, map, refl, arith, ap, subst, sym, ◌∙◌}
use Rattle.std.proofs.lemmas.Bool.{cases_order, false≢true}
use Rattle.morton_order.specs.declared.space.Loc.{Loc}
use Rattle.morton_order.specs.declared.space.Shape.{Shape}
use Rattle.morton_order.specs.Space.{IsIn, IsShape, axis_of, child, child_number, parent, parts}
use Rattle.morton_order.specs.Neighbours.{across}
use Rattle.morton_order.proofs.Family.{child-parent, child_inside, child_number_below, parent-child, parent_inside}
use Rattle.morton_order.proofs.Touching.{touching_back}
use Rattle.morton_order.proofs.Crossing.{across-back, across-half, across-parent, across-sibling, across-touches, crossed_level}
use Rattle.block_tree.specs.Tree.{IsBalanced, IsLeaf, IsTree, ancestor, is_node}
use Rattle.block_tree.specs.Behind.{BehindIsExact, BehindIsMutual, Names, behind, behind_at, children_at, coarse, fine, is_high_half, same}
use Rattle.block_tree.proofs.Ancestors.{ancestor_add, ancestor_inner, ancestor_inside, ancestor_level, ancestor_more, either_half, half-is, is_parity, node_parent, not_node, parent_node, parity, parity_other}
use Rattle.block_tree.proofs.Chosen.{found, has}
use Rattle.block_tree.proofs.Crossings.{crosses_of}
use Rattle.block_tree.proofs.Sides.{Crosses, IsAtEdge, touches_of}

-- an edge, by the half that each location on the way is
record AtEdge (dims axis : ℕ) (high : Bool) (up : ℕ) (c l : Loc) : Type 0 where
  enough : up ≤ c.level
  top : ancestor dims up c ≡ l

at_edge : (dims axis : ℕ) (high : Bool) (up : ℕ) (c l : Loc) → IsAtEdge dims axis high up c l → AtEdge dims axis high up c l
at_edge dims axis high zero c l h = record { enough = omega arith; top = h }
at_edge dims axis high (suc up) c l (deep, half, rest) = let r = at_edge dims axis high up (parent dims c) l rest in let e = r.enough in record { enough = omega arith; top = r.top }

-- below the top each location on the way is that half
edge_half : (dims axis : ℕ) (high : Bool) (up k : ℕ) (c l : Loc) → k < up → IsAtEdge dims axis high up c l → is_high_half (child_number dims (ancestor dims k c)) axis ≡ high
edge_half dims axis high zero k c l less h = absurd (omega arith)
edge_half dims axis high (suc up) zero c l less h = h.1
edge_half dims axis high (suc up) (suc k) c l less h = edge_half dims axis high up k (parent dims c) l (omega arith) h.2

-- a part of an edge is an edge
edge_front : (dims axis : ℕ) (high : Bool) (up k : ℕ) (c l : Loc) → k ≤ up → IsAtEdge dims axis high up c l → IsAtEdge dims axis high k c (ancestor dims k c)
edge_front dims axis high up zero c l less h = refl
edge_front dims axis high zero (suc k) c l less h = absurd (omega arith)
edge_front dims axis high (suc up) (suc k) c l less h = (h.0, h.1, edge_front dims axis high up k (parent dims c) l (omega arith) h.2)

-- what is met from an edge, level by level
record Met (s : Shape) (axis : ℕ) (high : Bool) (k : ℕ) (c d : Loc) : Type 0 where
  crosses : across s (ancestor s.dims k c) axis high ≡ Some (ancestor s.dims k d)

met : (s : Shape) → IsShape s → (axis : ℕ) (high : Bool) (k : ℕ) (c d l : Loc) → axis < s.dims → IsIn s c → IsAtEdge s.dims axis high k c l → across s c axis high ≡ Some d → across s l axis high ≡ Some (ancestor s.dims k d)
met s shape axis high zero c d l used inside edge h = subst (λ (v : Loc). across s v axis high ≡ Some d) edge h
met s shape axis high (suc k) c d l used inside (deep, half, rest) h =
    let p = parity (axis_of c axis) high (sym (half-is s.dims c axis shape.least shape.most used) ∙ half) in
    let up = across-parent s shape.most c d axis high used inside deep p h in
    met s shape axis high k (parent s.dims c) (parent s.dims d) l used (parent_inside s c inside deep) rest up.0

met_at : (s : Shape) → IsShape s → (axis : ℕ) (high : Bool) (up k : ℕ) (c d l : Loc) → axis < s.dims → IsIn s c → IsAtEdge s.dims axis high up c l → k ≤ up → across s c axis high ≡ Some d → across s (ancestor s.dims k c) axis high ≡ Some (ancestor s.dims k d)
met_at s shape axis high up k c d l used inside edge less h = met s shape axis high k c d (ancestor s.dims k c) used inside (edge_front s.dims axis high up k c l less edge) h

-- what the other side of a crossing from an inner node of a balanced tree is
across_node : (s : Shape) (inner : Loc → Bool) → IsShape s → IsTree s inner → IsBalanced s inner → (c d : Loc) (axis : ℕ) (high : Bool) → axis < s.dims → inner c ≡ true → across s c axis high ≡ Some d → is_node s inner d ≡ true
across_node s inner shape tree balanced c d axis high used h meet =
    let most = shape.most in
    let t = across-touches s c d axis high (tree.inside c h) (omega arith) meet in balanced c d h t.inside t.touching

back_node : (s : Shape) (inner : Loc → Bool) → IsShape s → IsTree s inner → IsBalanced s inner → (c d : Loc) (axis : ℕ) (high : Bool) → axis < s.dims → IsIn s c → inner d ≡ true → across s c axis high ≡ Some d → is_node s inner c ≡ true
back_node s inner shape tree balanced c d axis high used inside h meet =
    let most = shape.most in
    let t = across-touches s c d axis high inside (omega arith) meet in balanced d c h inside (touching_back s c d t.touching)

pub true_false : {P : Type 0} → (b : Bool) → b ≡ true → b ≡ false → P
true_false b h k = absurd (false≢true (sym k ∙ h))

-- a test that does not hold is false
pub fails : (b : Bool) → (b ≡ true → ⊥) → b ≡ false
fails true h = absurd (h refl)
fails false h = refl

-- a leaf with an inner node below it, or at it, is no leaf
leaf_above : (s : Shape) (inner : Loc → Bool) → IsTree s inner → (k : ℕ) (c l : Loc) → IsLeaf s inner l → k ≤ c.level → ancestor s.dims k c ≡ l → inner c ≡ true → ⊥
leaf_above s inner tree k c l leaf few top h = leaf.outer (subst (λ (v : Loc). inner v ≡ true) top (ancestor_inner s inner tree k c h few))

pub number_of_child : (dims : ℕ) (o : Loc) (j : ℕ) → dims ≤ 3 → 1 ≤ dims → j < parts dims → child_number dims (child dims o j) ≡ j
number_of_child zero o j most least h = absurd (omega arith)
number_of_child (suc zero) o j most least h = omega arith
number_of_child (suc (suc zero)) o j most least h = omega arith
number_of_child (suc (suc (suc zero))) o j most least h = omega arith
number_of_child (suc (suc (suc (suc d)))) o j most least h = absurd (omega arith)

pub passes_half : (b high : Bool) → b ≡ high → cond high b (not b) ≡ true
passes_half true true h = refl
passes_half false true h = h
passes_half true false h = sym h
passes_half false false h = refl

pub half_passes : (b high : Bool) → cond high b (not b) ≡ true → b ≡ high
half_passes true true h = refl
half_passes false true h = h
half_passes true false h = sym h
half_passes false false h = refl

not_not : (b : Bool) → not (not b) ≡ b
not_not true = refl
not_not false = refl

other_half : (high : Bool) → ◌≡◌ {A = ℕ} (cond (not high) 0 1) (cond high 1 0)
other_half true = refl
other_half false = refl

is_half : (x : ℕ) (high : Bool) → x % 2 ≡ cond high 1 0 → nat_eq (x % 2) 1 ≡ high
is_half x true h = ap (λ v. nat_eq v 1) h
is_half x false h = ap (λ v. nat_eq v 1) h

-- a setting: a balanced tree, a leaf and a side
record Setting (s : Shape) (inner : Loc → Bool) (l : Loc) (axis : ℕ) : Type 0 where
  shape : IsShape s
  tree : IsTree s inner
  balanced : IsBalanced s inner
  leaf : IsLeaf s inner l
  used : axis < s.dims

-- what is named is a leaf that touches
record Is (s : Shape) (inner : Loc → Bool) (l m : Loc) (axis : ℕ) (high : Bool) : Type 0 where
  leaf : IsLeaf s inner m
  touches : Crosses s axis high l m

-- a child of an inner node across a side
named_fine : (s : Shape) (inner : Loc → Bool) (l o : Loc) (axis j : ℕ) (high : Bool) → Setting s inner l axis → across s l axis high ≡ Some o → inner o ≡ true → j < parts s.dims → is_high_half j axis ≡ not high → Is s inner l (child s.dims o j) axis high
named_fine s inner l o axis j high set meet io number half =
    let most = set.shape.most in
    let m : Loc = child s.dims o j in
    let there = set.tree.inside o io in
    let room = set.tree.above_finest o io in
    let inside = child_inside s o j there room in
    let e : parent s.dims m ≡ o = parent-child s.dims o j in
    let halved : nat_eq (axis_of m axis % 2) 1 ≡ not high = sym (half-is s.dims m axis set.shape.least set.shape.most set.used) ∙ ap (λ v. is_high_half v axis) (number_of_child s.dims o j set.shape.most set.shape.least number) ∙ half in
    let p = parity (axis_of m axis) (not high) halved in
    let back : across s o axis (not high) ≡ Some l = across-back s l o axis high set.leaf.inside (omega arith) meet in
    let (c, crosses, top) = across-half s set.shape.most m l axis (not high) set.used inside (omega arith) p (ap (λ (v : Loc). across s v axis (not high)) e ∙ back) in
    let again : across s c axis high ≡ Some m = subst (λ (b : Bool). across s c axis b ≡ Some m) (not_not high) (across-back s m c axis (not high) inside (omega arith) crosses) in
    let lower = across-parent s set.shape.most m c axis (not high) set.used inside (omega arith) p crosses in
    let edge : is_high_half (child_number s.dims c) axis ≡ high = half-is s.dims c axis set.shape.least set.shape.most set.used ∙ is_half (axis_of c axis) high (lower.1 ∙ other_half high) in
    let c_level = crossed_level s m axis (not high) c crosses in
    let c_inside = (across-touches s m c axis (not high) inside (omega arith) crosses).inside in
    record {
      leaf = record {
        inside = inside;
        node = parent_node s inner m (ap inner e ∙ io);
        outer = λ im. set.leaf.outer (ap inner (sym top) ∙ node_parent s inner c (omega arith) (across_node s inner set.shape set.tree set.balanced m c axis (not high) set.used im crosses));
      };
      touches = record { up = 1; over = 0; c = c; d = m; inside = c_inside; here = (omega arith, edge, top); there = refl; meet = again };
    }

-- a leaf of the same level
named_same : (s : Shape) (inner : Loc → Bool) (l o : Loc) (axis : ℕ) (high : Bool) → Setting s inner l axis → across s l axis high ≡ Some o → inner o ≡ false → is_node s inner o ≡ true → Is s inner l o axis high
named_same s inner l o axis high set meet io node =
    let most = set.shape.most in
    record {
      leaf = record { inside = (across-touches s l o axis high set.leaf.inside (omega arith) meet).inside; node = node; outer = λ h. true_false (inner o) h io };
      touches = record { up = 0; over = 0; c = l; d = o; inside = set.leaf.inside; here = refl; there = refl; meet = meet };
    }

-- where the location across a side is no node, the leaf is at the same side of its parent
outer_of : (s : Shape) (inner : Loc → Bool) (l o : Loc) (axis : ℕ) (high : Bool) → Setting s inner l axis → across s l axis high ≡ Some o → is_node s inner o ≡ false → axis_of l axis % 2 ≡ cond high 1 0
outer_of s inner l o axis high set meet none =
    let deep = not_node s inner o none in
    let same_level = crossed_level s l axis high o meet in
    let d1 = deep.0 in
    elim (either_half (nat_eq (axis_of l axis % 2) 1) high) [
      | inl h ↦ parity (axis_of l axis) high h
      | inr h ↦
          let (d, crosses, siblings) = across-sibling s set.shape.most l axis high set.used set.leaf.inside (omega arith) (parity_other (axis_of l axis) high h) in
          let is : d ≡ o = some_is d o (sym crosses ∙ meet) in
          let io : inner (parent s.dims o) ≡ true = ap (λ (v : Loc). inner (parent s.dims v)) (sym is) ∙ ap inner siblings ∙ node_parent s inner l (omega arith) set.leaf.node in
          absurd (deep.1 io)
    ]
  where
    some_is : (x y : Loc) → Some x ≡ Some y → x ≡ y
    some_is x y h = cc

-- the coarser leaf
named_coarse : (s : Shape) (inner : Loc → Bool) (l o : Loc) (axis : ℕ) (high : Bool) → Setting s inner l axis → across s l axis high ≡ Some o → is_node s inner o ≡ false → Is s inner l (parent s.dims o) axis high
named_coarse s inner l o axis high set meet none =
    let most = set.shape.most in
    let deep = not_node s inner o none in
    let d1 = deep.0 in
    let same_level = crossed_level s l axis high o meet in
    let p = outer_of s inner l o axis high set meet none in
    let o_inside = (across-touches s l o axis high set.leaf.inside (omega arith) meet).inside in
    let pair = across-parent s set.shape.most l o axis high set.used set.leaf.inside (omega arith) p meet in
    let parent_is = node_parent s inner l (omega arith) set.leaf.node in
    record {
      leaf = record {
        inside = parent_inside s o o_inside d1;
        node = across_node s inner set.shape set.tree set.balanced (parent s.dims l) (parent s.dims o) axis high set.used parent_is pair.0;
        outer = deep.1;
      };
      touches = record {
        up = 0;
        over = 1;
        c = l;
        d = o;
        inside = set.leaf.inside;
        here = refl;
        there = (d1, half-is s.dims o axis set.shape.least set.shape.most set.used ∙ is_parity (axis_of o axis) high pair.1, refl);
        meet = meet;
      };
    }

named_by : (s : Shape) (inner : Loc → Bool) (l o m : Loc) (axis : ℕ) (high : Bool) → Setting s inner l axis → across s l axis high ≡ Some o → (b n : Bool) → inner o ≡ b → is_node s inner o ≡ n → Names (cond b (fine (map (child s.dims o) (children_at s.dims axis (not high)))) (cond n (same o) (coarse (parent s.dims o)))) m → Is s inner l m axis high
named_by s inner l o m axis high set meet true n io node h =
    let c = found (λ j. cond (not high) (is_high_half j axis) (not (is_high_half j axis))) (child s.dims o) 0 (parts s.dims) m h in
    let number = c.high in
    subst (λ (v : Loc). Is s inner l v axis high) c.is (named_fine s inner l o axis c.j high set meet io (omega arith) (half_passes (is_high_half c.j axis) (not high) c.pass))
named_by s inner l o m axis high set meet false true io node h = subst (λ (v : Loc). Is s inner l v axis high) (sym h) (named_same s inner l o axis high set meet io node)
named_by s inner l o m axis high set meet false false io node h = subst (λ (v : Loc). Is s inner l v axis high) (sym h) (named_coarse s inner l o axis high set meet node)

named : (s : Shape) (inner : Loc → Bool) (l m : Loc) (axis : ℕ) (high : Bool) → Setting s inner l axis → (o : Option Loc) → across s l axis high ≡ o → Names (behind_at s inner axis high o) m → Is s inner l m axis high
named s inner l m axis high set None meet h = absurd h
named s inner l m axis high set (Some o) meet h = named_by s inner l o m axis high set meet (inner o) (is_node s inner o) refl refl h

-- the levels of what touches
record Levels (s : Shape) (axis : ℕ) (high : Bool) (l m : Loc) (t : Crosses s axis high l m) : Type 0 where
  enough : t.up ≤ t.c.level
  enough_over : t.over ≤ t.d.level
  top : ancestor s.dims t.up t.c ≡ l
  top_over : ancestor s.dims t.over t.d ≡ m
  same_level : t.d.level ≡ t.c.level
  d_inside : IsIn s t.d

levels_of : (s : Shape) (inner : Loc → Bool) (axis : ℕ) (high : Bool) (l m : Loc) → Setting s inner l axis → (t : Crosses s axis high l m) → Levels s axis high l m t
levels_of s inner axis high l m set t =
    let most = set.shape.most in
    let a = at_edge s.dims axis high t.up t.c l t.here in
    let b = at_edge s.dims axis (not high) t.over t.d m t.there in
    record {
      enough = a.enough;
      enough_over = b.enough;
      top = a.top;
      top_over = b.top;
      same_level = crossed_level s t.c axis high t.d t.meet;
      d_inside = (across-touches s t.c t.d axis high t.inside (omega arith) t.meet).inside;
    }

-- a strict ancestor of a node is inner
pub strict_inner : (s : Shape) (inner : Loc → Bool) → IsTree s inner → (k : ℕ) (m : Loc) → is_node s inner m ≡ true → suc k ≤ m.level → inner (ancestor s.dims (suc k) m) ≡ true
strict_inner s inner tree k m node few = ancestor_inner s inner tree k (parent s.dims m) (node_parent s inner m (omega arith) node) (omega arith)

-- what is named, from the location across
names_from : (s : Shape) (inner : Loc → Bool) (l o m : Loc) (axis : ℕ) (high b n : Bool) → across s l axis high ≡ Some o → inner o ≡ b → is_node s inner o ≡ n → Names (cond b (fine (map (child s.dims o) (children_at s.dims axis (not high)))) (cond n (same o) (coarse (parent s.dims o)))) m → Names (behind s inner l axis high) m
names_from s inner l o m axis high b n crosses io none_node h =
    subst (λ (v : Option Loc). Names (behind_at s inner axis high v) m) (sym crosses)
    (subst (λ (v : Bool). Names (cond v (fine (map (child s.dims o) (children_at s.dims axis (not high)))) (cond (is_node s inner o) (same o) (coarse (parent s.dims o)))) m) (sym io)
    (subst (λ (v : Bool). Names (cond b (fine (map (child s.dims o) (children_at s.dims axis (not high)))) (cond v (same o) (coarse (parent s.dims o)))) m) (sym none_node) h))

-- below the top each location on the far side of a crossing from an edge is the near half
far_half : (s : Shape) (inner : Loc → Bool) (l m : Loc) (axis : ℕ) (high : Bool) → Setting s inner l axis → (t : Crosses s axis high l m) → (k : ℕ) → k < t.up → is_high_half (child_number s.dims (ancestor s.dims k t.d)) axis ≡ not high
far_half s inner l m axis high set t k less =
    let v = levels_of s inner axis high l m set t in
    let enough = v.enough in
    let few : k ≤ t.c.level = omega arith in
    let c : Loc = ancestor s.dims k t.c in
    let d : Loc = ancestor s.dims k t.d in
    let crosses = met_at s set.shape axis high t.up k t.c t.d l set.used t.inside t.here (omega arith) t.meet in
    let level = ancestor_level s.dims k t.c few in
    let half = edge_half s.dims axis high t.up k t.c l less t.here in
    let p = parity (axis_of c axis) high (sym (half-is s.dims c axis set.shape.least set.shape.most set.used) ∙ half) in
    let pair = across-parent s set.shape.most c d axis high set.used (ancestor_inside s k t.c t.inside few) (omega arith) p crosses in
    half-is s.dims d axis set.shape.least set.shape.most set.used ∙ is_parity (axis_of d axis) high pair.1

-- a finer leaf that touches is a child of the location across
found_finer : (s : Shape) (inner : Loc → Bool) (l m : Loc) (axis : ℕ) (high : Bool) → Setting s inner l axis → IsLeaf s inner m → (t : Crosses s axis high l m) → (e : ℕ) → t.up ≡ t.over + suc e → Names (behind s inner l axis high) m
found_finer s inner l m axis high set leaf t zero more =
    let v = levels_of s inner axis high l m set t in
    let enough = v.enough in
    let same_level = v.same_level in
    let o : Loc = ancestor s.dims t.up t.d in
    let crosses : across s l axis high ≡ Some o = met s set.shape axis high t.up t.c t.d l set.used t.inside t.here t.meet in
    let one : t.up ≡ suc t.over = omega arith in
    let o_is : o ≡ parent s.dims m = ap (λ k. ancestor s.dims k t.d) one ∙ ancestor_more s.dims t.over t.d ∙ ap (parent s.dims) v.top_over in
    let level = ancestor_level s.dims t.over t.d v.enough_over in
    let m_level : (ancestor s.dims t.over t.d).level ≡ m.level = ap (λ (x : Loc). x.level) v.top_over in
    let deep : 1 ≤ m.level = omega arith in
    let io : inner o ≡ true = ap inner o_is ∙ node_parent s inner m deep leaf.node in
    let half : is_high_half (child_number s.dims m) axis ≡ not high = ap (λ (x : Loc). is_high_half (child_number s.dims x) axis) (sym v.top_over) ∙ far_half s inner l m axis high set t t.over (omega arith) in
    let number = child_number_below s.dims m set.shape.least set.shape.most in
    let among = has (λ j. cond (not high) (is_high_half j axis) (not (is_high_half j axis))) (child s.dims o) 0 (parts s.dims) (child_number s.dims m) (omega arith) (omega arith) (passes_half (is_high_half (child_number s.dims m) axis) (not high) half) in
    let is : child s.dims o (child_number s.dims m) ≡ m = ap (λ (x : Loc). child s.dims x (child_number s.dims m)) o_is ∙ child-parent s.dims m deep in
    names_from s inner l o m axis high true (is_node s inner o) crosses io refl (subst (λ (x : Loc). Contains (map (child s.dims o) (children_at s.dims axis (not high))) x) is among)
found_finer s inner l m axis high set leaf t (suc e) more =
    let v = levels_of s inner axis high l m set t in
    let enough = v.enough in
    let same_level = v.same_level in
    let q : Loc = ancestor s.dims (suc t.over) t.c in
    let p : Loc = ancestor s.dims (suc t.over) t.d in
    let crosses : across s q axis high ≡ Some p = met_at s set.shape axis high t.up (suc t.over) t.c t.d l set.used t.inside t.here (omega arith) t.meet in
    let level = ancestor_level s.dims t.over t.d v.enough_over in
    let m_level : (ancestor s.dims t.over t.d).level ≡ m.level = ap (λ (x : Loc). x.level) v.top_over in
    let p_is : p ≡ parent s.dims m = ancestor_more s.dims t.over t.d ∙ ap (parent s.dims) v.top_over in
    let ip : inner p ≡ true = ap inner p_is ∙ node_parent s inner m (omega arith) leaf.node in
    let q_inside = ancestor_inside s (suc t.over) t.c t.inside (omega arith) in
    let q_level = ancestor_level s.dims (suc t.over) t.c (omega arith) in
    let node = back_node s inner set.shape set.tree set.balanced q p axis high set.used q_inside ip crosses in
    let iq = node_parent s inner q (omega arith) node in
    let r : Loc = parent s.dims q in
    let split : t.up ≡ suc (suc t.over) + e = omega arith in
    let top : ancestor s.dims e r ≡ l = ap (ancestor s.dims e) (sym (ancestor_more s.dims (suc t.over) t.c)) ∙ sym (ancestor_add s.dims (suc (suc t.over)) e t.c) ∙ ap (λ k. ancestor s.dims k t.c) (sym split) ∙ v.top in
    absurd (leaf_above s inner set.tree e r l set.leaf (omega arith) top iq)

found_same : (s : Shape) (inner : Loc → Bool) (l m : Loc) (axis : ℕ) (high : Bool) → Setting s inner l axis → IsLeaf s inner m → (t : Crosses s axis high l m) → t.up ≡ t.over → Names (behind s inner l axis high) m
found_same s inner l m axis high set leaf t more =
    let v = levels_of s inner axis high l m set t in
    let o : Loc = ancestor s.dims t.up t.d in
    let crosses : across s l axis high ≡ Some o = met s set.shape axis high t.up t.c t.d l set.used t.inside t.here t.meet in
    let is : o ≡ m = ap (λ k. ancestor s.dims k t.d) more ∙ v.top_over in
    let io : inner o ≡ false = ap inner is ∙ fails (inner m) leaf.outer in
    let none_node : is_node s inner o ≡ true = ap (is_node s inner) is ∙ leaf.node in
    names_from s inner l o m axis high false true crosses io none_node (sym is)

-- a coarser leaf that touches is the parent of the location across
coarser_is : (s : Shape) (inner : Loc → Bool) (l m o : Loc) (axis : ℕ) (high : Bool) → Setting s inner l axis → IsLeaf s inner m → across s l axis high ≡ Some o → is_node s inner o ≡ false → (e : ℕ) → suc e ≤ o.level → ancestor s.dims (suc e) o ≡ m → m ≡ parent s.dims o
coarser_is s inner l m o axis high set leaf crosses none zero few top = sym top
coarser_is s inner l m o axis high set leaf crosses none (suc e) few top =
    let same_level = crossed_level s l axis high o crosses in
    let p = outer_of s inner l o axis high set crosses none in
    let pair = across-parent s set.shape.most l o axis high set.used set.leaf.inside (omega arith) p crosses in
    let node = across_node s inner set.shape set.tree set.balanced (parent s.dims l) (parent s.dims o) axis high set.used (node_parent s inner l (omega arith) set.leaf.node) pair.0 in
    let im = strict_inner s inner set.tree e (parent s.dims o) node (omega arith) in
    absurd (leaf.outer (ap inner (sym top) ∙ im))

found_coarser : (s : Shape) (inner : Loc → Bool) (l m : Loc) (axis : ℕ) (high : Bool) → Setting s inner l axis → IsLeaf s inner m → (t : Crosses s axis high l m) → (e : ℕ) → t.over ≡ t.up + suc e → Names (behind s inner l axis high) m
found_coarser s inner l m axis high set leaf t e more =
    let v = levels_of s inner axis high l m set t in
    let enough = v.enough_over in
    let o : Loc = ancestor s.dims t.up t.d in
    let crosses : across s l axis high ≡ Some o = met s set.shape axis high t.up t.c t.d l set.used t.inside t.here t.meet in
    let o_level = ancestor_level s.dims t.up t.d (omega arith) in
    let top : ancestor s.dims (suc e) o ≡ m = sym (ancestor_add s.dims t.up (suc e) t.d) ∙ ap (λ k. ancestor s.dims k t.d) (sym more) ∙ v.top_over in
    let io : inner o ≡ false = fails (inner o) (λ h. leaf.outer (ap inner (sym top) ∙ ancestor_inner s inner set.tree (suc e) o h (omega arith))) in
    let none_node : is_node s inner o ≡ false = fails (is_node s inner o) (λ h. leaf.outer (ap inner (sym top) ∙ strict_inner s inner set.tree e o h (omega arith))) in
    names_from s inner l o m axis high false false crosses io none_node (coarser_is s inner l m o axis high set leaf crosses none_node e (omega arith) top)

-- what is further is as much more
pub further : (a b : ℕ) → a < b → (e : ℕ) × (b ≡ a + suc e)
further a b h = (b - a - 1, omega arith)

found_any : (s : Shape) (inner : Loc → Bool) (l m : Loc) (axis : ℕ) (high : Bool) → Setting s inner l axis → IsLeaf s inner m → Crosses s axis high l m → Names (behind s inner l axis high) m
found_any s inner l m axis high set leaf t = elim (cases_order t.up t.over) [
  | inl e ↦ found_same s inner l m axis high set leaf t e
  | inr other ↦ elim other [
    | inl less ↦ let (e, more) = further t.up t.over less in found_coarser s inner l m axis high set leaf t e more
    | inr greater ↦ let (e, more) = further t.over t.up greater in found_finer s inner l m axis high set leaf t e more
  ]
]

pub behind_is_exact : BehindIsExact
behind_is_exact s inner shape tree balanced l m axis high leaf used =
    let set : Setting s inner l axis = record { shape = shape; tree = tree; balanced = balanced; leaf = leaf; used = used } in (
      λ h. let is = named s inner l m axis high set (across s l axis high) refl h in (is.leaf, touches_of s l m axis high shape used is.touches),
      λ (other, t). found_any s inner l m axis high set other (crosses_of s l m axis high shape used leaf.inside other.inside t),
    )

-- to touch is mutual
turned : (s : Shape) (inner : Loc → Bool) (l m : Loc) (axis : ℕ) (high : Bool) → Setting s inner l axis → Crosses s axis high l m → Crosses s axis (not high) m l
turned s inner l m axis high set t =
    let most = set.shape.most in
    let v = levels_of s inner axis high l m set t in
    record {
      up = t.over;
      over = t.up;
      c = t.d;
      d = t.c;
      inside = v.d_inside;
      here = t.there;
      there = subst (λ (b : Bool). IsAtEdge s.dims axis b t.up t.c l) (sym (not_not high)) t.here;
      meet = across-back s t.c t.d axis high t.inside (omega arith) t.meet;
    }

mutual_one : (s : Shape) (inner : Loc → Bool) → IsShape s → IsTree s inner → IsBalanced s inner → (l m : Loc) (axis : ℕ) (high : Bool) → IsLeaf s inner l → IsLeaf s inner m → axis < s.dims → Names (behind s inner l axis high) m → Names (behind s inner m axis (not high)) l
mutual_one s inner shape tree balanced l m axis high leaf other used h =
    let set : Setting s inner l axis = record { shape = shape; tree = tree; balanced = balanced; leaf = leaf; used = used } in
    let set_m : Setting s inner m axis = record { shape = shape; tree = tree; balanced = balanced; leaf = other; used = used } in
    let is = named s inner l m axis high set (across s l axis high) refl h in
    found_any s inner m l axis (not high) set_m leaf (turned s inner l m axis high set is.touches)

pub behind_is_mutual : BehindIsMutual
behind_is_mutual s inner shape tree balanced l m axis high leaf other used = (
  mutual_one s inner shape tree balanced l m axis high leaf other used,
  λ h. subst (λ (b : Bool). Names (behind s inner l axis b) m) (not_not high) (mutual_one s inner shape tree balanced m l axis (not high) other leaf used h),
)
